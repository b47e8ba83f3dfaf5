-- What is proposed for a design.
use Rattle.std.specs.Prelude.{◌-◌, ◌≡◌, ◌≤◌, true, Option, Some, None}
use Rattle.vs_cert_check.specs.Verdicts.{rule_of}
use Rattle.vs_certificate.specs.declared.members.Certificate.{Certificate}
use Rattle.vs_certificate.specs.declared.members.ClaimedGrain.{ClaimedGrain}
use Rattle.vs_certificate.specs.declared.members.Rules.{Rules}
use Rattle.vs_certificate.specs.declared.members.Rules.TheVariants.{Narrow}
use Rattle.vs_certificate.specs.JsonValue.{value_of}
use Rattle.vs_certificate.specs.Reading.{IsSoundBy, other_by}
use Rattle.vs_certificate.specs.Versions.{has_own_words}
use Rattle.vs_design.specs.Parts.{Parts}
use Rattle.vs_cert_check.specs.vs_rules.specs.Certificates.{claims_of}
use Rattle.vs_cert_check.specs.vs_rules.specs.Verdict.{Disciplined, IsVerdict, no_verdict}
use Rattle.vs_propose.specs.declared.proposal.Proposal.{Proposal}
use Rattle.vs_propose.specs.declared.proposal.Refusal.{Refusal}
use Rattle.vs_propose.specs.declared.proposal.Proposal.TheVariants.{Made, NotMade}

-- a certificate of this grain, of a version that is read by these rules, of which no test of its form and limits fails, under which the design keeps
-- all rules
pub record IsMadeBy (rules : Rules) (d : Parts) (grain : ClaimedGrain) (c : Certificate) : Type 0 where
  pub grain_is : c.grain ≡ grain
  pub sound : IsSoundBy (other_by rules) (value_of c)
  pub own_words : has_own_words c ≡ true
  pub kept : Disciplined d (claims_of c)

-- under its certificate, which has this grain and of which no such test fails, the rule of its number, from 1 to 11, is the least that the design
-- breaks, and its place is the name of the first subject that breaks it
pub record IsRefusedBy (rules : Rules) (d : Parts) (grain : ClaimedGrain) (r : Refusal) : Type 0 where
  pub grain_is : r.certificate.grain ≡ grain
  pub sound : IsSoundBy (other_by rules) (value_of r.certificate)
  pub numbered : (1 ≤ r.number) × (r.number ≤ 11)
  pub verdict : IsVerdict d (claims_of r.certificate) (no_verdict (rule_of (r.number - 1)) r.place.items)

-- what is proposed is true of the design
abbrev pub IsProposalBy : Rules → Parts → ClaimedGrain → Proposal → Type 0
IsProposalBy rules d grain (Made c) = IsMadeBy rules d grain c
IsProposalBy rules d grain (NotMade r) = IsRefusedBy rules d grain r

-- the same of what may be there
abbrev pub MayBeProposalBy : Rules → Parts → ClaimedGrain → Option Proposal → Type 0
MayBeProposalBy rules d grain None = Unit {0}
MayBeProposalBy rules d grain (Some p) = IsProposalBy rules d grain p

-- the same of versions 1 and 2
abbrev pub IsMade : Parts → ClaimedGrain → Certificate → Type 0
IsMade d grain c = IsMadeBy Narrow d grain c

abbrev pub IsRefused : Parts → ClaimedGrain → Refusal → Type 0
IsRefused d grain r = IsRefusedBy Narrow d grain r

abbrev pub IsProposal : Parts → ClaimedGrain → Proposal → Type 0
IsProposal d grain p = IsProposalBy Narrow d grain p

-- it is a certificate that is proposed
abbrev pub AnswersMade : Proposal → Type 0
AnswersMade (Made c) = Unit {0}
AnswersMade (NotMade r) = ⊥

-- the same of what may be there
abbrev pub HasMade : Option Proposal → Type 0
HasMade None = ⊥
HasMade (Some p) = AnswersMade p
