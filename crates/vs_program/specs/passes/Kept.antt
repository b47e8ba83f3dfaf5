-- How a call ends with bytes that were read, for private clauses.
use Rattle.std.specs.Prelude.{ℕ, ◌≡◌, ◌≤◌, ◌⊎◌, Bool, true, false, Option, List, [], length}
use Rattle.std.specs.Io.KnownBytes.{Keeps, append_known}
use Rattle.vs_sign_off.specs.Certified.{is_before_run}
use Rattle.vs_sign_off.specs.declared.fault.CertifiedFault.{CertifiedFault}
use Rattle.vs_program_words.specs.Targets.{Fails, IsMeant}
use Rattle.vs_program_words.specs.declared.target.TargetFault.{TargetFault}
use Rattle.vs_program.specs.Statuses.{proposal_status, refusal_status, target_status}
use Rattle.vs_program.specs.Texts.{ReadsBack, proposal_line}
use Rattle.vs_program.specs.passes.Proposing.{WroteLine}
use Rattle.vs_program_words.specs.vs_certificate.specs.declared.members.ClaimedGrain.{ClaimedGrain}
use Rattle.vs_program_words.specs.vs_certificate.specs.declared.members.Rules.{Rules}
use Rattle.vs_sign_off.specs.vs_propose.specs.declared.proposal.Proposal.{Proposal}
use Rattle.vs_preprocess.specs.Limits.{text_limit}
use Rattle.vs_program.specs.Ends.{CallFails, EndsWith, HasBegunWriting, HasWritten, Held, IsOpen, IsProposed, KeepsAll, MakingFails}
use Rattle.vs_program.specs.Ends.{done_status}
use Rattle.vs_program.specs.declared.doing.Done.{Done}
use Rattle.vs_program.specs.Inputs.{IsCertificateFor}
use Rattle.vs_program.specs.declared.files.FilesRead.{FilesRead}
use Rattle.vs_program.specs.declared.files.FilesRead.TheVariants.{Text, Refused}
use Rattle.vs_program_words.specs.declared.words.Call as asked
use Rattle.vs_program_words.specs.declared.words.Outputs.{Outputs}
use Rattle.vs_program_words.specs.declared.words.Subcommand.{Subcommand}
use Rattle.vs_program_words.specs.declared.words.Subcommand.TheVariants.{Certify, Run, RunCertified}

-- what a call that gave a fault leaves at the writer of its text and at that of its dump
pub record HasLeftHere (bytes certificate : List ℕ) (o : Outputs) (call : Subcommand) (fault : CertifiedFault)
    (old new dump_old dump_new : Option (List ℕ)) : Type 0 where
  pub refused : is_before_run fault ≡ true → Keeps old new × Keeps dump_old dump_new
  pub begun : is_before_run fault ≡ false → (lost dump_lost : List ℕ) ×
      HasBegunWriting bytes certificate o call old (append_known new lost) dump_old (append_known dump_new dump_lost)

-- how a call ends with these bytes of a certificate and of a source, by what the writer of its text and that of its dump hold before and after it
pub data EndsHere (certificate bytes : List ℕ) (o : Outputs) (call : Subcommand) (old new dump_old dump_new : Option (List ℕ)) (status : ℕ)
    : Type 0 where
  done_here : (done : Done) (cut dump_cut : List ℕ) →
      HasWritten bytes certificate o call done old (append_known new cut) dump_old (append_known dump_new dump_cut) →
      IsOpen call cut → IsOpen call dump_cut → status ≡ done_status done →
      EndsHere certificate bytes o call old new dump_old dump_new status
  failed_here : (fault : CertifiedFault) → CallFails bytes certificate call fault →
      HasLeftHere bytes certificate o call fault old new dump_old dump_new → (status ≡ refusal_status fault) ⊎ (status ≡ 3) →
      EndsHere certificate bytes o call old new dump_old dump_new status
  written_here : (done : Done) (lost dump_lost : List ℕ) →
      HasWritten bytes certificate o call done old (append_known new lost) dump_old (append_known dump_new dump_lost) →
      status ≡ 3 → EndsHere certificate bytes o call old new dump_old dump_new status
  kept_here : Keeps old new → Keeps dump_old dump_new → status ≡ 3 → EndsHere certificate bytes o call old new dump_old dump_new status

-- how a call ends that makes a certificate for a file, for the design that bytes and a top define: by its line, all of it or not, or by a fault
-- that is told before any of it is written
pub data EndsMaking (rules : Rules) (bytes top : List ℕ) (grain : ClaimedGrain) (old new : Held) (status : ℕ) : Type 0 where
  with_line : (p : Proposal) (lost : List ℕ) → IsProposed rules bytes top grain p → ReadsBack rules p →
      WroteLine p (proposal_line p) lost old new →
      ((lost ≡ []) × (status ≡ proposal_status p)) ⊎ (status ≡ 3) → EndsMaking rules bytes top grain old new status
  without_line : (fault : CertifiedFault) → MakingFails rules bytes top grain fault → is_before_run fault ≡ true → KeepsAll old new →
      (status ≡ refusal_status fault) ⊎ (status ≡ 3) → EndsMaking rules bytes top grain old new status

-- how a call ends with these bytes, by what its writers hold before and after it
abbrev pub EndsKept : List ℕ → List ℕ → Outputs → Subcommand → Held → Held → ℕ → Type 0
EndsKept certificate bytes o call old new status = EndsWith (λ c b. (c ≡ certificate) × (b ≡ bytes)) o call old new status

-- how a call ends with these bytes of a certificate and of a text of files
abbrev pub EndsMeant : List ℕ → List ℕ → asked.Call → Held → Held → ℕ → Type 0
EndsMeant certificate text call old new status =
    ((s : Subcommand) × IsMeant text call s × EndsKept certificate text call.outputs s old new status)
    ⊎ ((f : TargetFault) × Fails text call f × KeepsAll old new × (status ≡ target_status f))

-- whether a call makes a certificate
abbrev pub makes_certificate : Subcommand → Bool
makes_certificate (Certify top grain rules) = true
makes_certificate call = false

-- a run goes to the greatest moment
abbrev pub IsEndless : Subcommand → Type 0
IsEndless (Run q) = q.until.count ≡ 4611686018427387903
IsEndless (RunCertified q) = q.until.count ≡ 4611686018427387903
IsEndless call = ⊥

-- the text of the files that were read is none of more than 4 MiB, and the certificate is that of the input
abbrev pub HasText : asked.Call → Option (List ℕ) → FilesRead → Type 0
HasText call input (Text kept) =
    (length kept.source.items ≤ text_limit) × IsCertificateFor call.subcommand call.certificate input kept.certificate.items
HasText call input (Refused places refusal) = Unit {0}
