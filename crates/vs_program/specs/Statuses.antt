-- Exit statuses of the program (profile).
use Rattle.std.specs.Prelude.{ℕ, Bool, ◌||◌, ◌==◌}
use Rattle.std.specs.declared.io.ErrorKind as io
use Rattle.std.specs.declared.io.ErrorKind.TheVariants as kind
use Rattle.clap.specs.declared.error.kind.ErrorKind.{ErrorKind}
use Rattle.clap.specs.declared.error.kind.ErrorKind.TheVariants as words
use Rattle.vs_syntax.specs.vs_lexer.specs.declared.fault.LexFault.{LexFault}
use Rattle.vs_syntax.specs.vs_lexer.specs.declared.fault.LexFault.TheVariants as lex
use Rattle.vs_parser.specs.declared.fault.ParseFault.{ParseFault}
use Rattle.vs_parser.specs.declared.fault.ParseFault.TheVariants as parse
use Rattle.vs_elaborate.specs.vs_scopes.specs.declared.faults.ElabFault.{ElabFault}
use Rattle.vs_elaborate.specs.vs_scopes.specs.declared.faults.ElabFault.TheVariants as elab
use Rattle.vs_sign_off.specs.vs_kernel.specs.declared.outcome.Outcome.{Outcome}
use Rattle.vs_sign_off.specs.vs_kernel.specs.declared.outcome.Outcome.TheVariants as o
use Rattle.vs_sign_off.specs.vs_simulate.specs.declared.fault.SimFault.{SimFault}
use Rattle.vs_sign_off.specs.vs_simulate.specs.declared.fault.SimFault.TheVariants.{Lex, Parse, Elab, Run, Memory}
use Rattle.vs_program_words.specs.vs_certificate.specs.declared.fault.CertFault.{CertFault}
use Rattle.vs_program_words.specs.vs_certificate.specs.declared.fault.CertFault.TheVariants as certificate
use Rattle.vs_sign_off.specs.declared.fault.CertifiedFault.{CertifiedFault}
use Rattle.vs_sign_off.specs.declared.fault.CertifiedFault.TheVariants.{Simulation, Certificate, Rejected}
use Rattle.vs_sign_off.specs.vs_cert_check.specs.declared.verdict.Verdict.{Verdict}
use Rattle.vs_sign_off.specs.vs_cert_check.specs.declared.verdict.Verdict.TheVariants.{Yes, No}
use Rattle.vs_program_words.specs.declared.target.TargetFault.{TargetFault}
use Rattle.vs_program_words.specs.declared.target.TargetFault.TheVariants as target
use Rattle.vs_sign_off.specs.vs_propose.specs.declared.proposal.Proposal.{Proposal}
use Rattle.vs_sign_off.specs.vs_propose.specs.declared.proposal.Proposal.TheVariants.{Made, NotMade}

-- whether a number is a status: 0 done, 1 refused, 2 step limit, 3 memory or a device's fault, 64 command line
abbrev pub is_status : ℕ → Bool
is_status n = n == 0 || (n == 1 || (n == 2 || (n == 3 || n == 64)))

-- the status of an outcome
abbrev pub outcome_status : Outcome → ℕ
outcome_status (o.StepLimit time) = 2
outcome_status _ = 0

-- the status of an error of the words: help, want of memory, or a fault
abbrev pub words_status : ErrorKind → ℕ
words_status words.DisplayHelp = 0
words_status words.DisplayVersion = 0
words_status words.OutOfMemory = 3
words_status _ = 64

-- the status where the words of a call can't be read: one is no text, or memory or a device failed
abbrev pub start_status : io.ErrorKind → ℕ
start_status kind.InvalidData = 64
start_status _ = 3

-- the status of a fault of the tokens
abbrev pub lex_status : LexFault → ℕ
lex_status lex.Memory = 3
lex_status _ = 1

-- the status of a fault of the grammar
abbrev pub parse_status : ParseFault → ℕ
parse_status parse.Memory = 3
parse_status _ = 1

-- the status of a fault of elaboration
abbrev pub elab_status : ElabFault → ℕ
elab_status elab.Memory = 3
elab_status _ = 1

-- the status of a fault: a refusal of the source, or memory or a device
abbrev pub fault_status : SimFault → ℕ
fault_status (Lex fault) = lex_status fault
fault_status (Parse fault) = parse_status fault
fault_status (Elab fault) = elab_status fault
fault_status (Run fault) = 3
fault_status Memory = 3

-- the status of a fault of a certificate
abbrev pub certificate_status : CertFault → ℕ
certificate_status certificate.Memory = 3
certificate_status _ = 1

-- the status of a fault where a certificate may be given: a refusal of the source, of the certificate or of the design, or memory or a device
abbrev pub refusal_status : CertifiedFault → ℕ
refusal_status (Simulation fault) = fault_status fault
refusal_status (Certificate fault) = certificate_status fault
refusal_status (Rejected number place) = 1

-- the status of a verdict
abbrev pub verdict_status : Verdict → ℕ
verdict_status Yes = 0
verdict_status (No number place) = 1

-- the status of a proposal
abbrev pub proposal_status : Proposal → ℕ
proposal_status (Made certificate) = 0
proposal_status (NotMade refusal) = 1

-- the status where a source doesn't give what a call leaves to it
abbrev pub target_status : TargetFault → ℕ
target_status target.Memory = 3
target_status _ = 64
