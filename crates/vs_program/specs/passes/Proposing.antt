-- For private contracts: what is proposed, and its line.
use Rattle.std.specs.Prelude.{ℕ, ◌≡◌, ◌≤◌, List, length}
use Rattle.std.specs.Io.KnownBytes.{Appends, Keeps, append_known}
use Rattle.serde_json.specs.Written.{compact_text}
use Rattle.vs_program_words.specs.vs_certificate.specs.JsonValue.{value_of}
use Rattle.vs_program_words.specs.vs_certificate.specs.Reading.{max_len}
use Rattle.vs_program_words.specs.vs_certificate.specs.declared.members.ClaimedGrain.{ClaimedGrain}
use Rattle.vs_program_words.specs.vs_certificate.specs.declared.members.Rules.{Rules}
use Rattle.vs_sign_off.specs.vs_propose.specs.declared.proposal.Proposal.{Proposal}
use Rattle.vs_sign_off.specs.vs_propose.specs.declared.proposal.Proposal.TheVariants.{Made, NotMade}
use Rattle.vs_program.specs.Ends.{Held, IsProposed}
use Rattle.vs_program.specs.Texts.{ReadsBack, proposal_line}
use Rattle.vs_program.specs.declared.certifying.ProposalLine.{ProposalLine}

-- the text of a certificate that is made isn't longer than the text of one that is read
abbrev pub IsShort : Proposal → Type 0
IsShort (Made c) = length (compact_text (value_of c)) ≤ max_len
IsShort (NotMade r) = Unit {0}

-- what is proposed for the design that bytes and a top define, with its line; the text of a certificate is one that is read again
pub record HasProposed (rules : Rules) (bytes top : List ℕ) (grain : ClaimedGrain) (p : ProposalLine) : Type 0 where
  pub proposed : IsProposed rules bytes top grain p.proposal
  pub reads_back : ReadsBack rules p.proposal
  pub line : p.line.items ≡ proposal_line p.proposal

-- a line was written, but for bytes at its end: that of a certificate to a file, and that of why there is none to standard output
abbrev pub WroteLine : Proposal → List ℕ → List ℕ → Held → Held → Type 0
WroteLine (Made c) line lost old new = Appends old.text (append_known new.text lost) line × Keeps old.out new.out × Keeps old.dump new.dump
WroteLine (NotMade r) line lost old new =
    Appends old.out (append_known new.out lost) line × Keeps old.text new.text × Keeps old.dump new.dump
