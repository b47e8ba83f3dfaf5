-- Lemmas on how the program ends.
use Rattle.std.proofs.Common.{arith, ◌≡◌, ◌∙◌, ◌==◌, ◌⊎◌, inl, inr, ne_eqb, refl, subst, sym, true≢false, ℕ, Bool, List, [], ◌∷◌, length, true, false}
use Rattle.std.specs.Borrow.{Bor}
use Rattle.std.specs.Prelude.{◌≤◌, Option, None, Some}
use Rattle.std.specs.Io.KnownBytes.{Keeps, append_known}
use Rattle.std.proofs.KnownBytes.{Appends-kept, Keeps-refl}
use Rattle.vs_design.specs.Parts.{Parts}
use Rattle.vs_sign_off.specs.vs_process.specs.declared.moves.Move.{Move}
use Rattle.vs_sign_off.specs.vs_propose.specs.vs_rules.specs.Claims.{Claims}
use Rattle.vs_sign_off.specs.vs_propose.specs.declared.proposal.Proposal.{Proposal}
use Rattle.vs_sign_off.specs.vs_propose.specs.declared.proposal.Proposal.TheVariants.{Made, NotMade}
use Rattle.vs_sign_off.specs.vs_kernel.specs.Runs.{HasBegun, RanTo}
use Rattle.vs_sign_off.specs.vs_kernel.specs.declared.outcome.Outcome.{Outcome}
use Rattle.vs_sign_off.specs.Certified.{HasBegunCertifiedRunBy, IsCertifiedRunBy, RepresentsRun, is_before_run}
use Rattle.vs_sign_off.specs.declared.fault.CertifiedFault.{CertifiedFault}
use Rattle.vs_sign_off.specs.vs_simulate.specs.Honesty.{IsRun, HasBegunRun}
use Rattle.vs_program.specs.declared.doing.Texts.{Texts}
use Rattle.vs_program.specs.declared.doing.Texts.TheVariants.{Both, One}
use Rattle.vs_program_words.specs.declared.words.Outputs.{Outputs}
use Rattle.vs_program_words.specs.vs_certificate.specs.declared.members.ClaimedGrain.{ClaimedGrain}
use Rattle.vs_program.specs.declared.doing.Done.{Done}
use Rattle.vs_program.specs.declared.doing.Done.TheVariants.{Ran, Judged, Proposed, Raced, Listed, Preprocessed}
use Rattle.vs_program_words.specs.declared.words.Request.{Request}
use Rattle.vs_program_words.specs.declared.words.OutputText.TheVariants.{Lines, Dump}
use Rattle.vs_program_words.specs.declared.words.Subcommand.{Subcommand}
use Rattle.vs_program_words.specs.vs_certificate.specs.declared.members.Rules.{Rules}
use Rattle.vs_program_words.specs.declared.words.Subcommand.TheVariants.{Run, RunCertified, Check, Certify, Race, Elab, Preprocess}
use Rattle.vs_program.specs.Ends.{HasBegunCertifiedText, HasBegunText, HasBegunWriting, HasWritten, Wrote, WroteCertified, texts_of}
use Rattle.vs_program.specs.Ends.{CallFails, CanBegin, Ends, EndsBy, EndsCall, EndsFiles, EndsWith, Held, IsFinished, IsProposed, KeepsAll, MakingFails, OnShown}
use Rattle.vs_program.specs.Ends.{by_device, by_doing, by_fault, by_target, by_text, by_write, done_status, file_of}
use Rattle.vs_preprocess.specs.Limits.{text_limit}
use Rattle.vs_program_words.specs.Targets.{IsAt, IsMeant, by_none, by_source, by_words}
use Rattle.vs_program_words.specs.declared.words.Call as asked
use Rattle.vs_program.specs.Inputs.{AreOfFiles, IsCertificateFor}
use Rattle.vs_program.specs.passes.Kept.{EndsHere, EndsKept, EndsMaking, EndsMeant, done_here, failed_here, kept_here, makes_certificate, with_line, without_line, written_here}
use Rattle.vs_program.specs.passes.Proposing.{HasProposed, WroteLine}
use Rattle.vs_program.specs.declared.certifying.ProposalLine.{ProposalLine}
use Rattle.vs_program.specs.Statuses.{proposal_status, refusal_status}
use Rattle.vs_program.specs.Texts.{ReadsBack, proposal_line}

-- ---- what was written stays

-- of a run, where the two sinks keep what they held
module _ (old mid new lines_old lines_mid lines_new : Option (List ℕ)) (kept : Keeps mid new) (lines_kept : Keeps lines_mid lines_new) where
  -- what a run came to
  abbrev ran_kept : {d : Parts} {until steps : ℕ} {o : Outcome} → RanTo d until steps o old mid lines_old lines_mid
      → RanTo d until steps o old new lines_old lines_new
  ran_kept h = record {
    moves = h.moves;
    statement = h.statement;
    block = h.block;
    stops = h.stops;
    end = h.end;
    text = Appends-kept old mid new _ h.text kept;
    lines = Appends-kept lines_old lines_mid lines_new _ h.lines lines_kept;
  }

  -- what a run left that failed
  left_kept : {d : Parts} {until steps : ℕ} → HasBegun d until steps old mid lines_old lines_mid → HasBegun d until steps old new lines_old lines_new
  left_kept h = record {
    moves = h.moves;
    statement = h.statement;
    block = h.block;
    stops = h.stops;
    within = h.within;
    text = (h.text.0, Appends-kept old mid new _ h.text.1 kept);
    lines = (h.lines.0, Appends-kept lines_old lines_mid lines_new _ h.lines.1 lines_kept);
  }

  run_kept : (bytes top : List ℕ) (until steps : ℕ) (o : Outcome) → IsRun bytes top until steps o old mid lines_old lines_mid
      → IsRun bytes top until steps o old new lines_old lines_new
  run_kept bytes top until steps o h = record { design = h.design; defined = h.defined; ran = ran_kept h.ran; shows = h.shows }

  begun_run_kept : (bytes top : List ℕ) (until steps : ℕ) → HasBegunRun bytes top until steps old mid lines_old lines_mid
      → HasBegunRun bytes top until steps old new lines_old lines_new
  begun_run_kept bytes top until steps h = record { design = h.design; defined = h.defined; begun = left_kept h.begun }

  stands_kept : (d : Parts) (c : Claims) (until : ℕ) (moves xs : List Move) → RepresentsRun d c until moves old mid lines_old lines_mid xs
      → RepresentsRun d c until moves old new lines_old lines_new xs
  stands_kept d c until moves xs h = record {
    same = h.same;
    dump = Appends-kept old mid new _ h.dump kept;
    shows = h.shows;
    lines = h.lines;
    written = Appends-kept lines_old lines_mid lines_new _ h.written lines_kept;
    by_slots = h.by_slots;
    displayed = h.displayed;
  }

  certified_kept : (rules : Rules) (bytes top certificate : List ℕ) (until steps : ℕ) (o : Outcome) → IsCertifiedRunBy rules bytes top certificate until steps o old mid lines_old lines_mid
      → IsCertifiedRunBy rules bytes top certificate until steps o old new lines_old lines_new
  certified_kept rules bytes top certificate until steps o h = record {
    design = h.design;
    defined = h.defined;
    claimed = h.claimed;
    passes = h.passes;
    disciplined = h.disciplined;
    independent = h.independent;
    ran = ran_kept h.ran;
    shows = h.shows;
    every = λ whole xs legal complete. stands_kept h.design _ until h.ran.moves xs (h.every whole xs legal complete);
  }

  begun_certified_kept : (rules : Rules) (bytes top certificate : List ℕ) (until steps : ℕ) → HasBegunCertifiedRunBy rules bytes top certificate until steps old mid lines_old lines_mid
      → HasBegunCertifiedRunBy rules bytes top certificate until steps old new lines_old lines_new
  begun_certified_kept rules bytes top certificate until steps h = record {
    design = h.design;
    defined = h.defined;
    claimed = h.claimed;
    passes = h.passes;
    disciplined = h.disciplined;
    begun = left_kept h.begun;
  }

-- of a call
module _ (old mid new dump_old dump_mid dump_new : Option (List ℕ)) (kept : Keeps mid new) (dump_kept : Keeps dump_mid dump_new) where
  wrote_kept : (t : Texts) (bytes : List ℕ) (q : Request) (o : Outcome) → Wrote t bytes q o old mid dump_old dump_mid → Wrote t bytes q o old new dump_old dump_new
  wrote_kept (One Dump) bytes q o h = run_kept old mid new None None None kept tt bytes q.top.now q.until.count q.steps.count o h
  wrote_kept (One Lines) bytes q o h = run_kept None None None old mid new tt kept bytes q.top.now q.until.count q.steps.count o h
  wrote_kept Both bytes q o h = run_kept dump_old dump_mid dump_new old mid new dump_kept kept bytes q.top.now q.until.count q.steps.count o h

  wrote_certified_kept : (t : Texts) (bytes certificate : List ℕ) (q : Request) (o : Outcome) → WroteCertified t bytes certificate q o old mid dump_old dump_mid
      → WroteCertified t bytes certificate q o old new dump_old dump_new
  wrote_certified_kept (One Dump) bytes certificate q o h =
      certified_kept old mid new None None None kept tt q.rules bytes q.top.now certificate q.until.count q.steps.count o h
  wrote_certified_kept (One Lines) bytes certificate q o h =
      certified_kept None None None old mid new tt kept q.rules bytes q.top.now certificate q.until.count q.steps.count o h
  wrote_certified_kept Both bytes certificate q o h =
      certified_kept dump_old dump_mid dump_new old mid new dump_kept kept q.rules bytes q.top.now certificate q.until.count q.steps.count o h

  written_kept : (bytes certificate : List ℕ) (w : Outputs) (call : Subcommand) (done : Done) → HasWritten bytes certificate w call done old mid dump_old dump_mid
      → HasWritten bytes certificate w call done old new dump_old dump_new
  written_kept bytes certificate w (Run q) (Ran o) h = wrote_kept (texts_of q.text w.dump) bytes q o h
  written_kept bytes certificate w (RunCertified q) (Ran o) h = wrote_certified_kept (texts_of q.text w.dump) bytes certificate q o h
  written_kept bytes certificate w (Check top rules) (Judged v) h = record { judged = h.judged; written = Appends-kept old mid new _ h.written kept }
  written_kept bytes certificate w (Certify top grain rules) (Proposed p) h = record { proposed = h.proposed; reads_back = h.reads_back; written = Appends-kept old mid new _ h.written kept }
  written_kept bytes certificate w (Race q) (Raced race) h =
      record { answered = h.answered; text = h.text; told = h.told; written = Appends-kept old mid new _ h.written kept }
  written_kept bytes certificate w (Elab top) Listed h = record { design = h.design; defined = h.defined; written = Appends-kept old mid new _ h.written kept }
  written_kept bytes certificate w Preprocess Preprocessed h = Appends-kept old mid new _ h kept
  written_kept bytes certificate w call done h = absurd h

  begun_text_kept : (t : Texts) (bytes : List ℕ) (q : Request) → HasBegunText t bytes q old mid dump_old dump_mid → HasBegunText t bytes q old new dump_old dump_new
  begun_text_kept (One Dump) bytes q h = begun_run_kept old mid new None None None kept tt bytes q.top.now q.until.count q.steps.count h
  begun_text_kept (One Lines) bytes q h = begun_run_kept None None None old mid new tt kept bytes q.top.now q.until.count q.steps.count h
  begun_text_kept Both bytes q h = begun_run_kept dump_old dump_mid dump_new old mid new dump_kept kept bytes q.top.now q.until.count q.steps.count h

  begun_certified_text_kept : (t : Texts) (bytes certificate : List ℕ) (q : Request) → HasBegunCertifiedText t bytes certificate q old mid dump_old dump_mid
      → HasBegunCertifiedText t bytes certificate q old new dump_old dump_new
  begun_certified_text_kept (One Dump) bytes certificate q h =
      begun_certified_kept old mid new None None None kept tt q.rules bytes q.top.now certificate q.until.count q.steps.count h
  begun_certified_text_kept (One Lines) bytes certificate q h =
      begun_certified_kept None None None old mid new tt kept q.rules bytes q.top.now certificate q.until.count q.steps.count h
  begun_certified_text_kept Both bytes certificate q h =
      begun_certified_kept dump_old dump_mid dump_new old mid new dump_kept kept q.rules bytes q.top.now certificate q.until.count q.steps.count h

  begun_kept : (bytes certificate : List ℕ) (w : Outputs) (call : Subcommand) → HasBegunWriting bytes certificate w call old mid dump_old dump_mid
      → HasBegunWriting bytes certificate w call old new dump_old dump_new
  begun_kept bytes certificate w (Run q) h = begun_text_kept (texts_of q.text w.dump) bytes q h
  begun_kept bytes certificate w (RunCertified q) h = begun_certified_text_kept (texts_of q.text w.dump) bytes certificate q h
  begun_kept bytes certificate w (Check top rules) h =
      record { verdict = h.verdict; judged = h.judged; begun = (h.begun.0, Appends-kept old mid new _ h.begun.1 kept) }
  begun_kept bytes certificate w (Certify top grain rules) h =
      record { proposal = h.proposal; proposed = h.proposed; begun = (h.begun.0, Appends-kept old mid new _ h.begun.1 kept) }
  begun_kept bytes certificate w (Race q) h =
      record { race = h.race; answered = h.answered; text = h.text; told = h.told; begun = (h.begun.0, Appends-kept old mid new _ h.begun.1 kept) }
  begun_kept bytes certificate w (Elab top) h = record { design = h.design; defined = h.defined; begun = (h.begun.0, Appends-kept old mid new _ h.begun.1 kept) }
  begun_kept bytes certificate w Preprocess h = (h.0, Appends-kept old mid new _ h.1 kept)

-- ---- the ends of a call

-- what is true of the bytes is said of less
pub ends_weaker : (P Q : List ℕ → List ℕ → Type 0) (w : Outputs) (call : Subcommand) (old new : Held) (status : ℕ)
    → ((certificate bytes : List ℕ) → P certificate bytes → Q certificate bytes) → EndsWith P w call old new status → EndsWith Q w call old new status
ends_weaker P Q w call old new status more (by_doing certificate bytes done cut dump_cut k written ended dump_ended is) =
    by_doing certificate bytes done cut dump_cut (more certificate bytes k) written ended dump_ended is
ends_weaker P Q w call old new status more (by_fault certificate bytes f k fails left told) = by_fault certificate bytes f (more certificate bytes k) fails left told
ends_weaker P Q w call old new status more (by_write certificate bytes done lost dump_lost k written is) =
    by_write certificate bytes done lost dump_lost (more certificate bytes k) written is
ends_weaker P Q w call old new status more (by_device kept is) = by_device kept is

-- a call that was done, whose texts are those of sinks which began as the writers
pub ends_by_doing : (old text new dump_old dump dump_new : Option (List ℕ)) (done : Done) (w : Outputs) (call : Subcommand) (certificate bytes : List ℕ) (status : ℕ) →
    HasWritten bytes certificate w call done old text dump_old dump → IsFinished call text new dump dump_new (done_status done) status →
    EndsHere certificate bytes w call old new dump_old dump_new status
ends_by_doing old text new dump_old dump dump_new done w call certificate bytes status written ended = elim ended [
  | inl all ↦ done_here done all.0 all.1
      (written_kept old text (append_known new all.0) dump_old dump (append_known dump_new all.1) all.2 all.3 bytes certificate w call done written) all.4 all.5 all.6
  | inr short ↦ written_here done short.0 short.1
      (written_kept old text (append_known new short.0) dump_old dump (append_known dump_new short.1) short.2 short.3 bytes certificate w call done written) short.4
]

-- a call that gave a fault
pub ends_by_fault : (old text new dump_old dump dump_new : Option (List ℕ)) (f : CertifiedFault) (w : Outputs) (call : Subcommand) (certificate bytes : List ℕ) (status : ℕ) →
    CallFails bytes certificate call f → (is_before_run f ≡ true → Keeps old new × Keeps dump_old dump_new) →
    (is_before_run f ≡ false → HasBegunWriting bytes certificate w call old text dump_old dump) →
    ((lost dump_lost : List ℕ) × Keeps text (append_known new lost) × Keeps dump (append_known dump_new dump_lost)) →
    (status ≡ refusal_status f) ⊎ (status ≡ 3) → EndsHere certificate bytes w call old new dump_old dump_new status
ends_by_fault old text new dump_old dump dump_new f w call certificate bytes status fails refused begun left told = failed_here f fails (record {
  refused = refused;
  begun = λ running. (
    left.0,
    left.1,
    begun_kept old text (append_known new left.0) dump_old dump (append_known dump_new left.1) left.2 left.3 bytes certificate w call (begun running),
  );
}) told

-- the same with what is held, by other names
pub here_as : (certificate bytes : List ℕ) (o : Outputs) (call : Subcommand) (a a' b b' c c' d d' : Option (List ℕ)) (status : ℕ) → a ≡ a' → b ≡ b' → c ≡ c' → d ≡ d'
    → EndsHere certificate bytes o call a b c d status → EndsHere certificate bytes o call a' b' c' d' status
here_as certificate bytes o call a a' b b' c c' d d' status p q r s h =
    subst (λ (x : Option (List ℕ)). EndsHere certificate bytes o call a' b' c' x status) s
    (subst (λ (x : Option (List ℕ)). EndsHere certificate bytes o call a' b' x d status) r
    (subst (λ (x : Option (List ℕ)). EndsHere certificate bytes o call a' x c d status) q
    (subst (λ (x : Option (List ℕ)). EndsHere certificate bytes o call x b c d status) p h)))

-- what is true of the bytes that were read is true of those with which the call ends
pub ends_as : (P : List ℕ → List ℕ → Type 0) (w : Outputs) (call : Subcommand) (old new : Held) (status : ℕ) (certificate bytes : List ℕ)
    → P certificate bytes → EndsKept certificate bytes w call old new status → EndsWith P w call old new status
ends_as P w call old new status certificate bytes holds ended =
    ends_weaker _ P w call old new status (λ c b same. subst (λ x. P x b) (sym same.0) (subst (P certificate) (sym same.1) holds)) ended

-- ---- where a text goes

-- a writer that is as it was keeps what it held
pub keeps_same : (a b : Option (List ℕ)) → b ≡ a → Keeps a b
keeps_same a b same = subst (Keeps a) (sym same) (Keeps-refl a)

-- all writers keep what they held
pub keeps_all : (h : Held) → KeepsAll h h
keeps_all h = record { out = Keeps-refl h.out; text = Keeps-refl h.text; dump = Keeps-refl h.dump }

-- where no file is named, no text goes to one
no_file : (o : Outputs) (done : Done) → o.text ≡ None → file_of o done ≡ None
no_file o (Ran outcome) none = none
no_file o (Judged v) none = none
no_file o (Proposed (Made c)) none = none
no_file o (Proposed (NotMade r)) none = refl
no_file o (Raced race) none = none
no_file o Listed none = none
no_file o Preprocessed none = none

-- where one is named, it has the text, unless that is the line of a certificate or of why there is none
own_file : (bytes certificate : List ℕ) (o : Outputs) (call : Subcommand) (done : Done) (old new dump_old dump_new : Option (List ℕ)) → makes_certificate call ≡ false
    → HasWritten bytes certificate o call done old new dump_old dump_new → file_of o done ≡ o.text
own_file bytes certificate o (Run q) (Ran outcome) old new dump_old dump_new other h = refl
own_file bytes certificate o (RunCertified q) (Ran outcome) old new dump_old dump_new other h = refl
own_file bytes certificate o (Check top rules) (Judged v) old new dump_old dump_new other h = refl
own_file bytes certificate o (Certify top grain rules) (Proposed p) old new dump_old dump_new other h = absurd (true≢false other)
own_file bytes certificate o (Race q) (Raced race) old new dump_old dump_new other h = refl
own_file bytes certificate o (Elab top) Listed old new dump_old dump_new other h = refl
own_file bytes certificate o Preprocess Preprocessed old new dump_old dump_new other h = refl
own_file bytes certificate o call done old new dump_old dump_new other h = absurd h

-- one that isn't asked for a certificate makes none
pub other_call : (call : Subcommand) → ((top : Bor (List ℕ)) (grain : ClaimedGrain) (rules : Rules) → call ≡ Certify top grain rules → ⊥) → makes_certificate call ≡ false
other_call (Run q) other = refl
other_call (RunCertified q) other = refl
other_call (Check top rules) other = refl
other_call (Certify top grain rules) other = absurd (other top grain rules refl)
other_call (Race q) other = refl
other_call (Elab top) other = refl
other_call Preprocess other = refl

can_begin : (o : Outputs) (call : Subcommand) → (o.text ≡ None) ⊎ (makes_certificate call ≡ false) → CanBegin o call
can_begin o (Run q) h = tt
can_begin o (RunCertified q) h = tt
can_begin o (Check top rules) h = tt
can_begin o (Certify top grain rules) (inl none) = none
can_begin o (Certify top grain rules) (inr other) = absurd (true≢false other)
can_begin o (Race q) h = tt
can_begin o (Elab top) h = tt
can_begin o Preprocess h = tt

-- what was written and what was begun, but for bytes at the ends
abbrev Written : List ℕ → List ℕ → Outputs → Subcommand → Done → List ℕ → List ℕ → Option (List ℕ) → Option (List ℕ) → Option (List ℕ) → Option (List ℕ) → Type 0
Written bytes certificate o call done lost dump_lost a b dump_a dump_b =
    HasWritten bytes certificate o call done a (append_known b lost) dump_a (append_known dump_b dump_lost)

abbrev Begun : List ℕ → List ℕ → Outputs → Subcommand → List ℕ → List ℕ → Option (List ℕ) → Option (List ℕ) → Option (List ℕ) → Option (List ℕ) → Type 0
Begun bytes certificate o call lost dump_lost a b dump_a dump_b =
    HasBegunWriting bytes certificate o call a (append_known b lost) dump_a (append_known dump_b dump_lost)

-- a text at the writer that it goes to
module _ (P : Option (List ℕ) → Option (List ℕ) → Option (List ℕ) → Option (List ℕ) → Type 0) (old new : Held) where
  shown_out : (file : Option (Bor (List ℕ))) → file ≡ None → P old.out new.out old.dump new.dump → Keeps old.text new.text → OnShown file P old new
  shown_out None none h kept = (h, kept)
  shown_out (Some file) none h kept = absurd (some_none none)
    where
      some_none : Some file ≡ None → ⊥
      some_none e = cc

  shown_file : (file : Option (Bor (List ℕ))) (name : Bor (List ℕ)) → file ≡ Some name → P old.text new.text old.dump new.dump → Keeps old.out new.out
      → OnShown file P old new
  shown_file (Some file) name some h kept = (h, kept)
  shown_file None name some h kept = absurd (none_some some)
    where
      none_some : None ≡ Some name → ⊥
      none_some e = cc

-- a call whose text went to standard output
pub ends_on_out : (certificate bytes : List ℕ) (o : Outputs) (call : Subcommand) (old new : Held) (status : ℕ) → o.text ≡ None
    → EndsHere certificate bytes o call old.out new.out old.dump new.dump status → Keeps old.text new.text → EndsKept certificate bytes o call old new status
ends_on_out certificate bytes o call old new status none (done_here done cut dump_cut h left_out dump_left_out is) kept =
    by_doing certificate bytes done cut dump_cut (refl, refl) (shown_out (Written bytes certificate o call done cut dump_cut) old new (file_of o done) (no_file o done none) h kept) left_out dump_left_out is
ends_on_out certificate bytes o call old new status none (failed_here f fails left told) kept = by_fault certificate bytes f (refl, refl) fails (record {
  refused = λ refused. record { out = (left.refused refused).0; text = kept; dump = (left.refused refused).1 };
  begun = λ running. let b = left.begun running in (can_begin o call (inl none), (b.0, b.1, shown_out (Begun bytes certificate o call b.0 b.1) old new o.text none b.2 kept));
}) told
ends_on_out certificate bytes o call old new status none (written_here done lost dump_lost h is) kept =
    by_write certificate bytes done lost dump_lost (refl, refl) (shown_out (Written bytes certificate o call done lost dump_lost) old new (file_of o done) (no_file o done none) h kept) is
ends_on_out certificate bytes o call old new status none (kept_here out dump is) kept = by_device (record { out = out; text = kept; dump = dump }) is

-- and one whose text went to a file
pub ends_in_file : (certificate bytes : List ℕ) (o : Outputs) (call : Subcommand) (name : Bor (List ℕ)) (old new : Held) (status : ℕ) → o.text ≡ Some name
    → makes_certificate call ≡ false → EndsHere certificate bytes o call old.text new.text old.dump new.dump status → Keeps old.out new.out
    → EndsKept certificate bytes o call old new status
ends_in_file certificate bytes o call name old new status named other (done_here done cut dump_cut h left_out dump_left_out is) kept =
    by_doing certificate bytes done cut dump_cut (refl, refl)
    (shown_file (Written bytes certificate o call done cut dump_cut) old new (file_of o done) name
    (own_file bytes certificate o call done old.text (append_known new.text cut) old.dump (append_known new.dump dump_cut) other h ∙ named) h kept) left_out dump_left_out is
ends_in_file certificate bytes o call name old new status named other (failed_here f fails left told) kept = by_fault certificate bytes f (refl, refl) fails (record {
  refused = λ refused. record { out = kept; text = (left.refused refused).0; dump = (left.refused refused).1 };
  begun = λ running. let b = left.begun running in (can_begin o call (inr other), (b.0, b.1, shown_file (Begun bytes certificate o call b.0 b.1) old new o.text name named b.2 kept));
}) told
ends_in_file certificate bytes o call name old new status named other (written_here done lost dump_lost h is) kept =
    by_write certificate bytes done lost dump_lost (refl, refl)
    (shown_file (Written bytes certificate o call done lost dump_lost) old new (file_of o done) name
    (own_file bytes certificate o call done old.text (append_known new.text lost) old.dump (append_known new.dump dump_lost) other h ∙ named) h kept) is
ends_in_file certificate bytes o call name old new status named other (kept_here text dump is) kept = by_device (record { out = kept; text = text; dump = dump }) is

-- a line, as what a call that makes a certificate has written
line_written : (rules : Rules) (bytes certificate top : List ℕ) (o : Outputs) (at : Bor (List ℕ)) (grain : ClaimedGrain) (p : Proposal) (lost : List ℕ) (name : Bor (List ℕ)) (old new : Held)
    → o.text ≡ Some name → at.now ≡ top → IsProposed rules bytes top grain p → ReadsBack rules p → WroteLine p (proposal_line p) lost old new
    → OnShown (file_of o (Proposed p)) (Written bytes certificate o (Certify at grain rules) (Proposed p) lost []) old new
line_written rules bytes certificate top o at grain (Made c) lost name old new named same is reads line =
    shown_file (Written bytes certificate o (Certify at grain rules) (Proposed (Made c)) lost []) old new o.text name named (record { proposed = subst (λ (t : List ℕ). IsProposed rules bytes t grain (Made c)) (sym same) is; reads_back = reads; written = line.0 }) line.1
line_written rules bytes certificate top o at grain (NotMade r) lost name old new named same is reads line =
    (record { proposed = subst (λ (t : List ℕ). IsProposed rules bytes t grain (NotMade r)) (sym same) is; reads_back = reads; written = line.0 }, line.1)

-- what was proposed, whose line was written or wasn't
pub ends_lined : (rules : Rules) (bytes top : List ℕ) (grain : ClaimedGrain) (found : ProposalLine) (whole : Bool) (old new : Held) (status : ℕ) → HasProposed rules bytes top grain found
    → ((lost : List ℕ) × (whole ≡ true → lost ≡ []) × WroteLine found.proposal found.line.items lost old new)
    → ((whole ≡ true) × (status ≡ done_status (Proposed found.proposal))) ⊎ (status ≡ 3) → EndsMaking rules bytes top grain old new status
ends_lined rules bytes top grain found whole old new status has wrote told =
    with_line found.proposal wrote.0 has.proposed has.reads_back (subst (λ (l : List ℕ). WroteLine found.proposal l wrote.0 old new) has.line wrote.2) (ended told)
  where
    ended : ((whole ≡ true) × (status ≡ done_status (Proposed found.proposal))) ⊎ (status ≡ 3)
        → ((wrote.0 ≡ []) × (status ≡ proposal_status found.proposal)) ⊎ (status ≡ 3)
    ended (inl all) = inl (wrote.1 all.0, all.1)
    ended (inr failed) = inr failed

-- a certificate that is made for a file
pub ends_making : (rules : Rules) (certificate bytes top : List ℕ) (o : Outputs) (call : Subcommand) (at : Bor (List ℕ)) (grain : ClaimedGrain) (name : Bor (List ℕ)) (old new : Held) (status : ℕ)
    → o.text ≡ Some name → call ≡ Certify at grain rules → at.now ≡ top → EndsMaking rules bytes top grain old new status → EndsKept certificate bytes o call old new status
ends_making rules certificate bytes top o call at grain name old new status named asked same ended = subst (λ (s : Subcommand). EndsKept certificate bytes o s old new status) (sym asked) (go ended)
  where
    go : EndsMaking rules bytes top grain old new status → EndsKept certificate bytes o (Certify at grain rules) old new status
    go (with_line p lost is reads line (inl all)) =
        by_doing certificate bytes (Proposed p) lost [] (refl, refl) (line_written rules bytes certificate top o at grain p lost name old new named same is reads line) all.0 refl all.1
    go (with_line p lost is reads line (inr failed)) =
        by_write certificate bytes (Proposed p) lost [] (refl, refl) (line_written rules bytes certificate top o at grain p lost name old new named same is reads line) failed
    go (without_line f fails before kept told) =
        by_fault certificate bytes f (refl, refl) (fails_at f fails) (record { refused = λ _. kept; begun = λ running. absurd (true≢false (sym before ∙ running)) }) told
      where
        fails_at : (f : CertifiedFault) → MakingFails rules bytes top grain f → MakingFails rules bytes at.now grain f
        fails_at f h = subst (λ (t : List ℕ). MakingFails rules bytes t grain f) (sym same) h

-- how a call ends that names no file, and one that names some
pub ends_without : (files : List (Bor (List ℕ))) (input : Option (List ℕ)) (call : asked.Call) (old new : Held) (status : ℕ)
    → (length files == 0) ≡ true → EndsCall input call old new status → EndsBy files input call old new status
ends_without [] input call old new status is h = h
ends_without (f ∷ fs) input call old new status is h =
    let some : (length (f ∷ fs) == 0) ≡ false = ne_eqb _ _ (λ e. omega arith) in
    absurd (true≢false (sym is ∙ some))

pub ends_within : (files : List (Bor (List ℕ))) (input : Option (List ℕ)) (call : asked.Call) (old new : Held) (status : ℕ)
    → (length files == 0) ≡ false → EndsFiles input call old new status → EndsBy files input call old new status
ends_within [] input call old new status is h = absurd (true≢false is)
ends_within (f ∷ fs) input call old new status is h = h

-- a subcommand at another top and moment takes a certificate where it did
certificate_at : (c s : Subcommand) (top : List ℕ) (until : ℕ) (file : Option (Bor (List ℕ))) (input : Option (List ℕ)) (certificate : List ℕ) → IsAt c s top until
    → IsCertificateFor c file input certificate → IsCertificateFor s file input certificate
certificate_at (Run q) (Run r) top until file input certificate at h = h
certificate_at (RunCertified q) (RunCertified r) top until None input certificate at h = h
certificate_at (RunCertified q) (RunCertified r) top until (Some f) input certificate at h = h
certificate_at (Check t a) (Check u b) top until None input certificate at h = h
certificate_at (Check t a) (Check u b) top until (Some f) input certificate at h = h
certificate_at (Certify t g a) (Certify u k b) top until file input certificate at h = h
certificate_at (Race q) (Race r) top until file input certificate at h = h
certificate_at (Elab t) (Elab u) top until file input certificate at h = h
certificate_at Preprocess Preprocess top until file input certificate at h = h
certificate_at c s top until file input certificate at h = absurd at

certificate_meant : (text : List ℕ) (c : asked.Call) (s : Subcommand) (input : Option (List ℕ)) (certificate : List ℕ) → IsMeant text c s
    → IsCertificateFor c.subcommand c.certificate input certificate → IsCertificateFor s c.certificate input certificate
certificate_meant text c s input certificate (by_words found unit at) h = certificate_at c.subcommand s _ _ c.certificate input certificate at h
certificate_meant text c s input certificate (by_source by) h = certificate_at c.subcommand s _ _ c.certificate input certificate by.is h
certificate_meant text c s input certificate (by_none none at) h = certificate_at c.subcommand s _ _ c.certificate input certificate at h

-- how a call ends with the text of its files
pub ends_by_text : (input : Option (List ℕ)) (call : asked.Call) (certificate text : List ℕ) (old new : Held) (status : ℕ)
    → length text ≤ text_limit → IsCertificateFor call.subcommand call.certificate input certificate
    → EndsMeant certificate text call old new status → EndsFiles input call old new status
ends_by_text input call certificate text old new status short taken ended = elim ended [
  | inl meant ↦ by_text text short meant.0 meant.1 (ends_as (AreOfFiles meant.0 call.certificate input text) call.outputs meant.0 old new status
      certificate text (refl, certificate_meant text call meant.0 input certificate meant.1 taken) meant.2)
  | inr none ↦ by_target text short none.0 none.1 none.2 none.3
]

-- a call that means this by its text ends as the call that it means
pub ends_meant : (certificate text : List ℕ) (call meant : asked.Call) (old new : Held) (status : ℕ) → meant.outputs ≡ call.outputs → IsMeant text call meant.subcommand
    → EndsKept certificate text meant.outputs meant.subcommand old new status → EndsMeant certificate text call old new status
ends_meant certificate text call meant old new status same by ended =
    inl (meant.subcommand, by, subst (λ (o : Outputs). EndsKept certificate text o meant.subcommand old new status) same ended)

-- ---- files in memory

-- a program whose files begin empty
pub ends_begun : (words : List (List ℕ)) (input out : Option (List ℕ)) (text dump : List ℕ) (new : Held) (status : ℕ) → text ≡ [] → dump ≡ []
    → Ends words input (record { out = out; text = Some text; dump = Some dump }) new status → Ends words input (record { out = out; text = Some []; dump = Some [] }) new status
ends_begun words input out text dump new status none dump_none h =
    subst (λ (t : List ℕ). Ends words input (record { out = out; text = Some t; dump = Some [] }) new status) none
    (subst (λ (d : List ℕ). Ends words input (record { out = out; text = Some text; dump = Some d }) new status) dump_none h)
