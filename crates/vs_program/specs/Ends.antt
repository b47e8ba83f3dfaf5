-- How the program ends: its exit status (profile).
use Rattle.std.specs.Borrow.{Bor}
use Rattle.std.specs.Prelude.{ℕ, ◌≡◌, ◌≤◌, ◌⊎◌, true, false, Option, None, Some, List, [], ◌∷◌, ◌++◌, codes, length}
use Rattle.std.specs.Io.KnownBytes.{Appends, Keeps, append_known}
use Rattle.clap.specs.declared.error.kind.ErrorKind.{ErrorKind}
use Rattle.vs_program_words.specs.vs_certificate.specs.declared.members.ClaimedGrain.{ClaimedGrain}
use Rattle.vs_program_words.specs.vs_certificate.specs.declared.members.Rules.{Rules}
use Rattle.vs_program_words.specs.vs_certificate.specs.declared.fault.CertFault.TheVariants.{NotJson}
use Rattle.vs_design.specs.Parts.{Parts}
use Rattle.vs_sign_off.specs.vs_vcd_writing.specs.Sinks.{AppendsPart}
use Rattle.vs_sign_off.specs.vs_kernel.specs.declared.outcome.Outcome.{Outcome}
use Rattle.vs_sign_off.specs.vs_cert_check.specs.declared.verdict.Verdict.{Verdict}
use Rattle.vs_sign_off.specs.vs_propose.specs.declared.proposal.Proposal.{Proposal}
use Rattle.vs_sign_off.specs.vs_propose.specs.declared.proposal.Proposal.TheVariants.{NotMade}
use Rattle.vs_sign_off.specs.vs_propose.specs.Proposals.{IsProposalBy}
use Rattle.vs_sign_off.specs.vs_simulate.specs.Honesty.{Defines, IsRun, HasBegunRun, SimulationFails}
use Rattle.vs_sign_off.specs.vs_simulate.specs.Listing.{IsListing, HasBegunListing}
use Rattle.vs_sign_off.specs.Certified.{IsCertifiedRunBy, HasBegunCertifiedRunBy, CertifyingFailsBy, is_before_run}
use Rattle.vs_sign_off.specs.Judged.{IsJudgedBy}
use Rattle.vs_sign_off.specs.declared.fault.CertifiedFault.{CertifiedFault}
use Rattle.vs_sign_off.specs.declared.fault.CertifiedFault.TheVariants.{Simulation, Certificate, Rejected}
use Rattle.vs_sign_off.specs.vs_simulate.specs.declared.fault.SimFault.TheVariants as sim
use Rattle.vs_sign_off.specs.vs_kernel.specs.declared.outcome.RunFault.TheVariants as run
use Rattle.vs_preprocess.specs.Limits.{text_limit}
use Rattle.vs_program_words.specs.declared.words.Call as asked
use Rattle.vs_program_words.specs.declared.words.Request.{Request}
use Rattle.vs_program_words.specs.declared.words.Subcommand.{Subcommand}
use Rattle.vs_program_words.specs.declared.words.Subcommand.TheVariants.{Run, RunCertified, Check, Certify, Race, Elab, Preprocess}
use Rattle.vs_program_words.specs.declared.words.Outputs.{Outputs}
use Rattle.vs_program_words.specs.declared.words.WordsFault.TheVariants.{OrderOfCertified, TwoDumps}
use Rattle.vs_program_words.specs.Targets.{Fails, IsMeant}
use Rattle.vs_program_words.specs.declared.target.TargetFault.{TargetFault}
use Rattle.vs_program_words.specs.declared.words.OutputText.{OutputText}
use Rattle.vs_program_words.specs.declared.words.OutputText.TheVariants.{Lines, Dump}
use Rattle.vs_program.specs.declared.command.Writers.{Writers}
use Rattle.vs_program.specs.declared.doing.Texts.{Texts}
use Rattle.vs_program.specs.declared.doing.Texts.TheVariants.{Both, One}
use Rattle.vs_program.specs.declared.doing.Done.{Done}
use Rattle.vs_program.specs.declared.doing.Done.TheVariants.{Ran, Judged, Proposed, Raced, Listed, Preprocessed}
use Rattle.vs_program_words.specs.Asks.{HaveFault, LooseFails, WordsAsk, WordsAskInVain}
use Rattle.vs_program.specs.Inputs.{AreKept, AreOfFiles, IsKept}
use Rattle.vs_program.specs.Races.{HasBegunRace, WroteRace, race_status}
use Rattle.vs_program.specs.Statuses.{outcome_status, proposal_status, refusal_status, target_status, verdict_status, words_status}
use Rattle.vs_program.specs.Texts.{IsTooLong, ReadsBack, proposal_line, verdict_line}

-- ---- what a call wrote

-- the texts of a run that are written: the one that is asked for, or both where the dump goes to a file
abbrev pub texts_of : OutputText → Option (Bor (List ℕ)) → Texts
texts_of text None = One text
texts_of text (Some file) = Both

-- what a run wrote to the writer of the text that was asked for: the value change dump, or the lines, where nothing keeps the bytes of the other
-- one; or the lines, and the dump of the same run to the file of the dump
abbrev pub Wrote : Texts → List ℕ → Request → Outcome → Option (List ℕ) → Option (List ℕ) → Option (List ℕ) → Option (List ℕ) → Type 0
Wrote (One Dump) bytes q outcome old new dump_old dump_new = IsRun bytes q.top.now q.until.count q.steps.count outcome old new None None
Wrote (One Lines) bytes q outcome old new dump_old dump_new = IsRun bytes q.top.now q.until.count q.steps.count outcome None None old new
Wrote Both bytes q outcome old new dump_old dump_new = IsRun bytes q.top.now q.until.count q.steps.count outcome dump_old dump_new old new

-- the same of a run of a design whose certificate is accepted by the rules that are asked for, with the text of the certificate
abbrev pub WroteCertified : Texts → List ℕ → List ℕ → Request → Outcome
    → Option (List ℕ) → Option (List ℕ) → Option (List ℕ) → Option (List ℕ) → Type 0
WroteCertified (One Dump) bytes certificate q outcome old new dump_old dump_new =
    IsCertifiedRunBy q.rules bytes q.top.now certificate q.until.count q.steps.count outcome old new None None
WroteCertified (One Lines) bytes certificate q outcome old new dump_old dump_new =
    IsCertifiedRunBy q.rules bytes q.top.now certificate q.until.count q.steps.count outcome None None old new
WroteCertified Both bytes certificate q outcome old new dump_old dump_new =
    IsCertifiedRunBy q.rules bytes q.top.now certificate q.until.count q.steps.count outcome dump_old dump_new old new

-- the line of the verdict on a certificate, by rules, was written
pub record WroteVerdict (rules : Rules) (bytes top certificate : List ℕ) (v : Verdict) (old new : Option (List ℕ)) : Type 0 where
  pub judged : IsJudgedBy rules bytes top certificate v
  pub written : Appends old new (verdict_line v)

-- what is proposed by rules for the design that bytes and a top define, at a grain
pub record IsProposed (rules : Rules) (bytes top : List ℕ) (grain : ClaimedGrain) (p : Proposal) : Type 0 where
  pub design : Parts
  pub defined : Defines bytes top design
  pub proposal : IsProposalBy rules design grain p

-- the line of what is proposed was written; the text of a certificate is one that is read again by the same rules
pub record WroteProposal (rules : Rules) (bytes top : List ℕ) (grain : ClaimedGrain) (p : Proposal) (old new : Option (List ℕ))
    : Type 0 where
  pub proposed : IsProposed rules bytes top grain p
  pub reads_back : ReadsBack rules p
  pub written : Appends old new (proposal_line p)

-- what a call wrote to the writer, and to the file of its dump, with the bytes of the source and those of the certificate
abbrev pub HasWritten : List ℕ → List ℕ → Outputs → Subcommand → Done
    → Option (List ℕ) → Option (List ℕ) → Option (List ℕ) → Option (List ℕ) → Type 0
HasWritten bytes certificate o (Run q) (Ran outcome) old new dump_old dump_new =
    Wrote (texts_of q.text o.dump) bytes q outcome old new dump_old dump_new
HasWritten bytes certificate o (RunCertified q) (Ran outcome) old new dump_old dump_new =
    WroteCertified (texts_of q.text o.dump) bytes certificate q outcome old new dump_old dump_new
HasWritten bytes certificate o (Check top rules) (Judged v) old new dump_old dump_new =
    WroteVerdict rules bytes top.now certificate v old new
HasWritten bytes certificate o (Certify top grain rules) (Proposed p) old new dump_old dump_new =
    WroteProposal rules bytes top.now grain p old new
HasWritten bytes certificate o (Race q) (Raced race) old new dump_old dump_new = WroteRace q.rules bytes q.top.now race old new
HasWritten bytes certificate o (Elab top) Listed old new dump_old dump_new = IsListing bytes top.now old new
HasWritten bytes certificate o Preprocess Preprocessed old new dump_old dump_new = Appends old new bytes
HasWritten bytes certificate o call _ old new dump_old dump_new = ⊥

-- the status of what was done
abbrev pub done_status : Done → ℕ
done_status (Ran outcome) = outcome_status outcome
done_status (Judged v) = verdict_status v
done_status (Proposed p) = proposal_status p
done_status (Raced race) = race_status race
done_status Listed = 0
done_status Preprocessed = 0

-- ---- what a call wrote that failed

-- what a run wrote that failed: a beginning of the text that was asked for, or of both
abbrev pub HasBegunText : Texts → List ℕ → Request → Option (List ℕ) → Option (List ℕ) → Option (List ℕ) → Option (List ℕ) → Type 0
HasBegunText (One Dump) bytes q old new dump_old dump_new = HasBegunRun bytes q.top.now q.until.count q.steps.count old new None None
HasBegunText (One Lines) bytes q old new dump_old dump_new = HasBegunRun bytes q.top.now q.until.count q.steps.count None None old new
HasBegunText Both bytes q old new dump_old dump_new = HasBegunRun bytes q.top.now q.until.count q.steps.count dump_old dump_new old new

-- the same of a run of a design whose certificate is accepted
abbrev pub HasBegunCertifiedText : Texts → List ℕ → List ℕ → Request
    → Option (List ℕ) → Option (List ℕ) → Option (List ℕ) → Option (List ℕ) → Type 0
HasBegunCertifiedText (One Dump) bytes certificate q old new dump_old dump_new =
    HasBegunCertifiedRunBy q.rules bytes q.top.now certificate q.until.count q.steps.count old new None None
HasBegunCertifiedText (One Lines) bytes certificate q old new dump_old dump_new =
    HasBegunCertifiedRunBy q.rules bytes q.top.now certificate q.until.count q.steps.count None None old new
HasBegunCertifiedText Both bytes certificate q old new dump_old dump_new =
    HasBegunCertifiedRunBy q.rules bytes q.top.now certificate q.until.count q.steps.count dump_old dump_new old new

-- a beginning of the line of the verdict on a certificate
pub record HasBegunVerdict (rules : Rules) (bytes top certificate : List ℕ) (old new : Option (List ℕ)) : Type 0 where
  pub verdict : Verdict
  pub judged : IsJudgedBy rules bytes top certificate verdict
  pub begun : AppendsPart old new (verdict_line verdict)

-- a beginning of the line of what is proposed
pub record HasBegunProposal (rules : Rules) (bytes top : List ℕ) (grain : ClaimedGrain) (old new : Option (List ℕ)) : Type 0 where
  pub proposal : Proposal
  pub proposed : IsProposed rules bytes top grain proposal
  pub begun : AppendsPart old new (proposal_line proposal)

-- what a call wrote that failed: a beginning of its text, and of its dump in a file
abbrev pub HasBegunWriting : List ℕ → List ℕ → Outputs → Subcommand
    → Option (List ℕ) → Option (List ℕ) → Option (List ℕ) → Option (List ℕ) → Type 0
HasBegunWriting bytes certificate o (Run q) old new dump_old dump_new =
    HasBegunText (texts_of q.text o.dump) bytes q old new dump_old dump_new
HasBegunWriting bytes certificate o (RunCertified q) old new dump_old dump_new =
    HasBegunCertifiedText (texts_of q.text o.dump) bytes certificate q old new dump_old dump_new
HasBegunWriting bytes certificate o (Check top rules) old new dump_old dump_new = HasBegunVerdict rules bytes top.now certificate old new
HasBegunWriting bytes certificate o (Certify top grain rules) old new dump_old dump_new = HasBegunProposal rules bytes top.now grain old new
HasBegunWriting bytes certificate o (Race q) old new dump_old dump_new = HasBegunRace q.rules bytes q.top.now old new
HasBegunWriting bytes certificate o (Elab top) old new dump_old dump_new = HasBegunListing bytes top.now old new
HasBegunWriting bytes certificate o Preprocess old new dump_old dump_new = AppendsPart old new bytes

-- ---- why a call failed

-- what a fault says of a call that takes no certificate
abbrev pub SourceFails : List ℕ → List ℕ → CertifiedFault → Type 0
SourceFails bytes top (Simulation fault) = SimulationFails bytes top fault
SourceFails bytes top _ = ⊥

-- a certificate is made for the design that bytes and a top define, and its text is too long to be read again
pub record IsMadeTooLong (rules : Rules) (bytes top : List ℕ) (grain : ClaimedGrain) : Type 0 where
  pub proposal : Proposal
  pub proposed : IsProposed rules bytes top grain proposal
  pub long : IsTooLong proposal

-- what a fault says where a certificate is to be made by rules: the source is refused, or the certificate that is made, for its length
abbrev pub MakingFails : Rules → List ℕ → List ℕ → ClaimedGrain → CertifiedFault → Type 0
MakingFails rules bytes top grain (Simulation fault) = SimulationFails bytes top fault
MakingFails rules bytes top grain (Certificate NotJson) = IsMadeTooLong rules bytes top grain
MakingFails rules bytes top grain _ = ⊥

-- what a fault says where a verdict is asked for by rules, which a no is none of
abbrev pub CheckingFails : Rules → List ℕ → List ℕ → List ℕ → CertifiedFault → Type 0
CheckingFails rules bytes top certificate (Rejected number place) = ⊥
CheckingFails rules bytes top certificate fault = CertifyingFailsBy rules bytes top certificate fault

-- what a fault says where a text is only to be written
abbrev pub WritingFails : CertifiedFault → Type 0
WritingFails (Simulation (sim.Run run.Write)) = Unit {0}
WritingFails _ = ⊥

-- what a fault says of a call: the source is refused, or then the certificate where the call takes or makes one, or then the design where it is
-- to run; and a text of files that is only to be written fails where a write fails
abbrev pub CallFails : List ℕ → List ℕ → Subcommand → CertifiedFault → Type 0
CallFails bytes certificate (Run q) fault = SourceFails bytes q.top.now fault
CallFails bytes certificate (RunCertified q) fault = CertifyingFailsBy q.rules bytes q.top.now certificate fault
CallFails bytes certificate (Check top rules) fault = CheckingFails rules bytes top.now certificate fault
CallFails bytes certificate (Certify top grain rules) fault = MakingFails rules bytes top.now grain fault
CallFails bytes certificate (Race q) fault = SourceFails bytes q.top.now fault
CallFails bytes certificate (Elab top) fault = SourceFails bytes top.now fault
CallFails bytes certificate Preprocess fault = WritingFails fault

-- what may be left out at the end of a dump that is written: its last line, where that is the greatest moment, which stands for none (profile)
abbrev pub IsOpen : Subcommand → List ℕ → Type 0
IsOpen (Run q) cut = (cut ≡ []) ⊎ ((q.until.count ≡ 4611686018427387903) × (cut ≡ codes "#4611686018427387903" ++ 10 ∷ []))
IsOpen (RunCertified q) cut = (cut ≡ []) ⊎ ((q.until.count ≡ 4611686018427387903) × (cut ≡ codes "#4611686018427387903" ++ 10 ∷ []))
IsOpen call cut = cut ≡ []

-- the writer and the file of the dump hold texts that were gathered, but for what may be left out, and the status is that of what was done; or a
-- write failed, and they lack bytes at the end
abbrev pub IsFinished : Subcommand → Option (List ℕ) → Option (List ℕ) → Option (List ℕ) → Option (List ℕ) → ℕ → ℕ → Type 0
IsFinished call text new dump dump_new done status =
    ((cut dump_cut : List ℕ) × Keeps text (append_known new cut) × Keeps dump (append_known dump_new dump_cut)
    × IsOpen call cut × IsOpen call dump_cut × (status ≡ done))
    ⊎ ((lost dump_lost : List ℕ) × Keeps text (append_known new lost) × Keeps dump (append_known dump_new dump_lost) × (status ≡ 3))

-- ---- what the writers hold

-- what the writers of a call hold: standard output, the file of its text, and that of its dump
pub record Held : Type 0 where
  pub out : Option (List ℕ)
  pub text : Option (List ℕ)
  pub dump : Option (List ℕ)

-- what writers hold
abbrev pub held_of : {O F : Type 0} → (O → Option (List ℕ)) → (F → Option (List ℕ)) → Writers O F → Held
held_of contents bytes w = record { out = contents w.out; text = bytes w.text; dump = bytes w.dump }

-- they keep all that they held
pub record KeepsAll (old new : Held) : Type 0 where
  pub out : Keeps old.out new.out
  pub text : Keeps old.text new.text
  pub dump : Keeps old.dump new.dump

-- what is held by the writer that a text goes to, and by the other one: a file where one is named, else standard output
abbrev pub shown : Option (Bor (List ℕ)) → Held → Option (List ℕ)
shown None h = h.out
shown (Some file) h = h.text

abbrev pub unshown : Option (Bor (List ℕ)) → Held → Option (List ℕ)
unshown None h = h.text
unshown (Some file) h = h.out

-- a text goes to standard output, or to the file that is named for it, and the other one stays as it was
abbrev pub OnShown : Option (Bor (List ℕ)) → (Option (List ℕ) → Option (List ℕ) → Option (List ℕ) → Option (List ℕ) → Type 0)
    → Held → Held → Type 0
OnShown file ends old new =
    ends (shown file old) (shown file new) old.dump new.dump × Keeps (unshown file old) (unshown file new)

-- the file that the text of what was done goes to, where it goes to one: the line that tells of no certificate goes to none (profile)
abbrev pub file_of : Outputs → Done → Option (Bor (List ℕ))
file_of o (Proposed (NotMade refusal)) = None
file_of o done = o.text

-- a text may be begun whose end isn't known to be there: a certificate that goes to a file is made before any of it is written
abbrev pub CanBegin : Outputs → Subcommand → Type 0
CanBegin o (Certify top grain rules) = o.text ≡ None
CanBegin o call = Unit {0}

-- what a call that gave a fault leaves at its writers: where it is refused, all is as it was; else a beginning of its texts, but for bytes at
-- their ends
pub record HasLeft (bytes certificate : List ℕ) (o : Outputs) (call : Subcommand) (fault : CertifiedFault) (old new : Held) : Type 0 where
  pub refused : is_before_run fault ≡ true → KeepsAll old new
  pub begun : is_before_run fault ≡ false → CanBegin o call × ((lost dump_lost : List ℕ) × OnShown o.text
      (λ a b dump_a dump_b. HasBegunWriting bytes certificate o call a (append_known b lost) dump_a (append_known dump_b dump_lost))
      old new)

-- ---- how a call ends

-- the bytes that a call keeps of its input: those of a source, or those of a certificate and those of a source
abbrev pub IsKeptFor : Subcommand → Option (List ℕ) → List ℕ → List ℕ → Type 0
IsKeptFor (Run q) input certificate bytes = IsKept input bytes
IsKeptFor (RunCertified q) input certificate bytes = AreKept input certificate bytes
IsKeptFor (Check top rules) input certificate bytes = AreKept input certificate bytes
IsKeptFor (Certify top grain rules) input certificate bytes = IsKept input bytes
IsKeptFor (Race q) input certificate bytes = IsKept input bytes
IsKeptFor (Elab top) input certificate bytes = IsKept input bytes
IsKeptFor Preprocess input certificate bytes = IsKept input bytes

-- the same of a call whose certificate may be in a file: then all of the input is the source
abbrev pub IsKeptBeside : Option (Bor (List ℕ)) → Subcommand → Option (List ℕ) → List ℕ → List ℕ → Type 0
IsKeptBeside None call input certificate bytes = IsKeptFor call input certificate bytes
IsKeptBeside (Some file) call input certificate bytes = IsKept input bytes

-- how a call that was asked for ends, with what is true of the bytes of its certificate and of its source, and with what its writers hold before and
-- after it: by what it did, by its fault, or with 3 where a device or memory failed
pub data EndsWith (kept : List ℕ → List ℕ → Type 0) (o : Outputs) (call : Subcommand) (old new : Held) (status : ℕ) : Type 0 where
  by_doing : (certificate bytes : List ℕ) (done : Done) (cut dump_cut : List ℕ) → kept certificate bytes →
      OnShown (file_of o done)
      (λ a b dump_a dump_b. HasWritten bytes certificate o call done a (append_known b cut) dump_a (append_known dump_b dump_cut))
      old new → IsOpen call cut → IsOpen call dump_cut → status ≡ done_status done → EndsWith kept o call old new status
  by_fault : (certificate bytes : List ℕ) (fault : CertifiedFault) → kept certificate bytes → CallFails bytes certificate call fault →
      HasLeft bytes certificate o call fault old new → (status ≡ refusal_status fault) ⊎ (status ≡ 3) →
      EndsWith kept o call old new status
  by_write : (certificate bytes : List ℕ) (done : Done) (lost dump_lost : List ℕ) → kept certificate bytes →
      OnShown (file_of o done)
      (λ a b dump_a dump_b. HasWritten bytes certificate o call done a (append_known b lost) dump_a (append_known dump_b dump_lost))
      old new → status ≡ 3 → EndsWith kept o call old new status
  by_device : KeepsAll old new → status ≡ 3 → EndsWith kept o call old new status

-- how a call ends with the bytes kept of the input
abbrev pub EndsCall : Option (List ℕ) → asked.Call → Held → Held → ℕ → Type 0
EndsCall input call old new status =
    EndsWith (IsKeptBeside call.certificate call.subcommand input) call.outputs call.subcommand old new status

-- how a call ends whose source is the text of files: with their text, and what the call means by it; or where they are refused, or it doesn't
-- give what the call leaves to it, or where a device or memory failed
pub data EndsFiles (input : Option (List ℕ)) (call : asked.Call) (old new : Held) (status : ℕ) : Type 0 where
  by_text : (text : List ℕ) → length text ≤ text_limit → (s : Subcommand) → IsMeant text call s →
      EndsWith (AreOfFiles s call.certificate input text) call.outputs s old new status → EndsFiles input call old new status
  by_target : (text : List ℕ) → length text ≤ text_limit → (f : TargetFault) → Fails text call f → KeepsAll old new →
      status ≡ target_status f → EndsFiles input call old new status
  by_refusal : KeepsAll old new → status ≡ 1 → EndsFiles input call old new status
  by_reading : KeepsAll old new → status ≡ 3 → EndsFiles input call old new status

-- how a call ends that names files, or none
abbrev pub EndsBy : List (Bor (List ℕ)) → Option (List ℕ) → asked.Call → Held → Held → ℕ → Type 0
EndsBy [] input call old new status = EndsCall input call old new status
EndsBy (file ∷ files) input call old new status = EndsFiles input call old new status

-- how a call ends, with what its writers hold before and after it
abbrev pub EndsAsked : Option (List ℕ) → asked.Call → Held → Held → ℕ → Type 0
EndsAsked input call old new status = EndsBy call.sources.files.items input call old new status

-- how the program ends where the words ask for nothing: by the fault that they have, a call for help or for the version among them, or since they
-- ask for a certified run in an order of its own, for two dumps, or for nothing at all, or with 3 where memory or, at help and the version, a
-- device failed; these two alone are written to the writer
pub data EndsWords (words : List (List ℕ)) (old new : Option (List ℕ)) (status : ℕ) : Type 0 where
  by_kind : (k : ErrorKind) → HaveFault words k → (words_status k ≡ 0) ⊎ Keeps old new → status ≡ words_status k →
      EndsWords words old new status
  by_order : WordsAskInVain words OrderOfCertified → Keeps old new → status ≡ 64 → EndsWords words old new status
  by_dumps : WordsAskInVain words TwoDumps → Keeps old new → status ≡ 64 → EndsWords words old new status
  by_words : LooseFails words → Keeps old new → status ≡ 64 → EndsWords words old new status
  by_memory : Keeps old new → status ≡ 3 → EndsWords words old new status
  by_help : (k : ErrorKind) → HaveFault words k → words_status k ≡ 0 → status ≡ 3 → EndsWords words old new status

-- how the program ends, with these words, this input, and what the writers hold before and after it
pub data Ends (words : List (List ℕ)) (input : Option (List ℕ)) (old new : Held) (status : ℕ) : Type 0 where
  without_call : EndsWords words old.out new.out status → Keeps old.text new.text → Keeps old.dump new.dump →
      Ends words input old new status
  with_call : (call : asked.Call) → WordsAsk words call → EndsAsked input call old new status → Ends words input old new status
