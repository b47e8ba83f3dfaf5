-- Two executions of one design that differ.
use Rattle.std.specs.Prelude.{ℕ, List}
use Rattle.vs_propose.specs.vs_certificate.specs.declared.members.Certificate.{Certificate}
use Rattle.vs_propose.specs.vs_certificate.specs.declared.members.ClaimedGrain.TheVariants.{Block}
use Rattle.vs_propose.specs.vs_certificate.specs.declared.members.Rules.{Rules}
use Rattle.vs_propose.specs.vs_certificate.specs.declared.members.Rules.TheVariants.{Narrow}
use Rattle.vs_design.specs.Parts.{Parts}
use Rattle.vs_design.specs.Traces.{SameTrace}
use Rattle.vs_independence.specs.vs_process.specs.declared.moves.Grain.{Grain}
use Rattle.vs_independence.specs.vs_process.specs.Executions.{trace}
use Rattle.vs_independence.specs.Discipline.{Independent}
use Rattle.vs_sign_off.specs.vs_simulate.specs.Honesty.{Defines}
use Rattle.vs_propose.specs.Proposals.{IsMadeBy}
use Rattle.vs_propose.specs.vs_rules.specs.Certificates.{claims_of}
use Rattle.vs_sign_off.specs.declared.witness.LineWitness.{LineWitness}
use Rattle.vs_sign_off.specs.declared.witness.Witness.{Witness}
use Rattle.vs_sign_off.specs.Witnesses.{IsLineWitness, IsWitness}
use Rattle.vs_sign_off.specs.declared.answer.Race.{Race}
use Rattle.vs_sign_off.specs.declared.answer.Race.TheVariants.{Certified, Found, FoundLine, NotFound}

-- a race of the design that a source and a top define: two such executions, whose traces differ, so that the design depends at each grain on the order
-- in which permitted steps are taken
pub record IsRace (source top : List ℕ) (w : Witness) : Type 0 where
  pub design : Parts
  pub defined : Defines source top design
  pub witness : IsWitness design w
  pub traces : SameTrace (trace design witness.first.moves w.time) (trace design witness.other.moves w.time) → ⊥
  pub dependent : (grain : Grain) → Independent grain design → ⊥

-- the same of two executions of which `$strobe` prints different lines
pub record IsLineRace (source top : List ℕ) (w : LineWitness) : Type 0 where
  pub design : Parts
  pub defined : Defines source top design
  pub witness : IsLineWitness design w
  pub traces : SameTrace (trace design witness.first.moves w.time) (trace design witness.other.moves w.time) → ⊥
  pub dependent : (grain : Grain) → Independent grain design → ⊥

-- the design that a source and a top define keeps all rules of a certificate of grain block, of a version that is read by these rules, so that it
-- doesn't depend on that order
pub record IsCertifiedBy (rules : Rules) (source top : List ℕ) (c : Certificate) : Type 0 where
  pub design : Parts
  pub defined : Defines source top design
  pub made : IsMadeBy rules design Block c
  pub independent : Independent (claims_of c).grain design

-- the same of one of version 1 or 2
abbrev pub IsCertified : List ℕ → List ℕ → Certificate → Type 0
IsCertified source top c = IsCertifiedBy Narrow source top c

-- what is answered of a source and a top, with certificates of the versions that are read by these rules: a certificate or a race is one; where
-- neither was found, these define a design, and nothing else is said
abbrev pub IsAnswerBy : Rules → List ℕ → List ℕ → Race → Type 0
IsAnswerBy rules source top (Certified c) = IsCertifiedBy rules source top c
IsAnswerBy rules source top (Found w refused) = IsRace source top w
IsAnswerBy rules source top (FoundLine w refused) = IsLineRace source top w
IsAnswerBy rules source top (NotFound missed refused) = (design : Parts) × Defines source top design

-- the same with certificates of versions 1 and 2
abbrev pub IsAnswer : List ℕ → List ℕ → Race → Type 0
IsAnswer source top race = IsAnswerBy Narrow source top race
