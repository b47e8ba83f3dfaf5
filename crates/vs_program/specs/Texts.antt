-- The texts that the program prints (profile).
use Rattle.std.specs.Prelude.{ℕ, ◌<◌, List, length, [], ◌∷◌, ◌++◌, codes, decimal}
use Rattle.std.specs.List.{flat_map}
use Rattle.serde_json.specs.Written.{compact_text}
use Rattle.vs_program_words.specs.vs_certificate.specs.JsonValue.{value_of}
use Rattle.vs_program_words.specs.vs_certificate.specs.Reading as certificates
use Rattle.vs_program_words.specs.vs_certificate.specs.declared.members.Rules.{Rules}
use Rattle.vs_elaborate.specs.vs_scopes.specs.Texts.{shown_byte}
use Rattle.vs_sign_off.specs.declared.fault.CertifiedFault.{CertifiedFault}
use Rattle.vs_sign_off.specs.declared.fault.CertifiedFault.TheVariants.{Simulation, Certificate, Rejected}
use Rattle.vs_sign_off.specs.vs_cert_check.specs.declared.verdict.Verdict.{Verdict}
use Rattle.vs_sign_off.specs.vs_cert_check.specs.declared.verdict.Verdict.TheVariants.{Yes, No}
use Rattle.vs_sign_off.specs.vs_propose.specs.declared.proposal.Proposal.{Proposal}
use Rattle.vs_sign_off.specs.vs_propose.specs.declared.proposal.Proposal.TheVariants.{Made, NotMade}
use Rattle.vs_syntax.specs.vs_lexer.specs.Faults as lexer
use Rattle.vs_parser.specs.Faults as parser
use Rattle.vs_elaborate.specs.vs_scopes.specs.Texts as elaborate
use Rattle.vs_sign_off.specs.vs_kernel.specs.declared.outcome.RunFault.TheVariants as run
use Rattle.vs_sign_off.specs.vs_simulate.specs.declared.fault.SimFault.{SimFault}
use Rattle.vs_sign_off.specs.vs_simulate.specs.declared.fault.SimFault.TheVariants.{Lex, Parse, Elab, Run, Memory}

-- the text of a fault: its number and its place, or what failed
abbrev pub fault_text : SimFault → List ℕ
fault_text (Lex fault) = lexer.fault_text fault
fault_text (Parse fault) = parser.fault_text fault
fault_text (Elab fault) = elaborate.fault_text fault
fault_text (Run run.Write) = codes "write"
fault_text (Run run.Failed) = codes "failed"
fault_text (Run run.Done) = codes "done"
fault_text (Run run.Memory) = codes "memory"
fault_text Memory = codes "memory"

-- a broken rule, by its number, and the subject that breaks it, by its name
abbrev pub rule_text : ℕ → List ℕ → List ℕ
rule_text number place = codes "K" ++ decimal number ++ codes " at " ++ flat_map shown_byte place

-- the text of a fault where a certificate may be given
abbrev pub refusal_text : CertifiedFault → List ℕ
refusal_text (Simulation fault) = fault_text fault
refusal_text (Certificate fault) = certificates.fault_text fault
refusal_text (Rejected number place) = rule_text number place.items

-- the line of a verdict
abbrev pub verdict_line : Verdict → List ℕ
verdict_line Yes = codes "yes" ++ 10 ∷ []
verdict_line (No number place) = codes "no " ++ rule_text number place.items ++ 10 ∷ []

-- the line of a proposal: the certificate's compact text, or why none was made
abbrev pub proposal_line : Proposal → List ℕ
proposal_line (Made c) = compact_text (value_of c) ++ 10 ∷ []
proposal_line (NotMade r) = codes "not made " ++ rule_text r.number r.place.items ++ 10 ∷ []

-- a certificate is made whose text is longer than the text of one that is read
abbrev pub IsTooLong : Proposal → Type 0
IsTooLong (Made c) = certificates.max_len < length (compact_text (value_of c))
IsTooLong (NotMade r) = ⊥

-- the text of a certificate that is made passes each test of a certificate's text by these rules, and reads as that certificate
abbrev pub ReadsBack : Rules → Proposal → Type 0
ReadsBack rules (Made c) = certificates.PassesBy (certificates.other_by rules) (compact_text (value_of c)) (value_of c)
ReadsBack rules (NotMade r) = Unit {0}
