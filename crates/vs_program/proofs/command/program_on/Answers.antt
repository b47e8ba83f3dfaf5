use Rattle.std.proofs.Common.{ℕ, List, ◌≡◌, ◌∙◌, ap, sym, ◌⊎◌, inl, inr}
use Rattle.std.proofs.Math.Nat.{suc-ne-zero}
use Rattle.std.specs.Prelude.{Option}
use Rattle.std.specs.Io.KnownBytes.{Keeps}
use Rattle.std.proofs.KnownBytes.{Keeps-refl}
use Rattle.clap.specs.Words.{kind_of}
use Rattle.clap.specs.declared.error.Error.{Error}
use Rattle.clap.specs.declared.error.kind.ErrorKind.{ErrorKind}
use Rattle.clap.specs.declared.error.kind.ErrorKind.TheVariants.{OutOfMemory}
use Rattle.vs_program.specs.Statuses.{words_status}
use Rattle.vs_program_words.specs.Asks.{HaveFault, WordsFail}
use Rattle.vs_program.specs.Ends.{EndsWords, by_kind, by_dumps, by_order, by_words, by_memory, by_help, with_call, without_call}
use Rattle.vs_program.specs.passes.Telling.{TellsWords}
use Rattle.vs_program_words.specs.declared.words.WordsFault.{WordsFault}
use Rattle.vs_program_words.specs.declared.words.WordsFault.TheVariants.{Memory, Misused, NoOrder, NoUntil, OrderOfCertified, Refused, TwoDumps, Unread}
use Rattle.vs_program_words.proofs.VainLemmas.{no_order, no_until}
use Rattle.vs_program.proofs.command.program_on.Goals as goal

-- want of memory is no help
no_help : (k : ErrorKind) → k ≡ OutOfMemory → words_status k ≡ 0 → ⊥
no_help k memory help = suc-ne-zero 2 (sym (ap words_status memory) ∙ help)

-- the writer keeps what it held where memory was refused
kept_by_memory : (k : ErrorKind) (old new : Option (List ℕ)) → k ≡ OutOfMemory → (words_status k ≡ 0) ⊎ Keeps old new → Keeps old new
kept_by_memory k old new memory (inl help) = absurd (no_help k memory help)
kept_by_memory k old new memory (inr kept) = kept

-- where a device or memory failed as the words' fault was told
failed : (words : List (List ℕ)) (k : ErrorKind) (old new : Option (List ℕ)) (status : ℕ) → HaveFault words k → status ≡ 3 →
    (words_status k ≡ 0) ⊎ Keeps old new → EndsWords words old new status
failed words k old new status fault is (inl help) = by_help k fault help is
failed words k old new status fault is (inr kept) = by_memory kept is

-- what is told of an error of `clap`
told_error : (words : List (List ℕ)) (e : Error) (old new : Option (List ℕ)) (status : ℕ) → WordsFail words (Refused e) → (status ≡ 3) ⊎ (status ≡ words_status (kind_of e)) →
    (words_status (kind_of e) ≡ 0) ⊎ Keeps old new → EndsWords words old new status
told_error words e old new status (inl memory) (inl device) kept = by_memory (kept_by_memory (kind_of e) old new memory kept) device
told_error words e old new status (inl memory) (inr is) kept = by_memory (kept_by_memory (kind_of e) old new memory kept) (is ∙ ap words_status memory)
told_error words e old new status (inr fault) (inl device) kept = failed words (kind_of e) old new status fault device kept
told_error words e old new status (inr fault) (inr is) kept = by_kind (kind_of e) fault kept is

-- what is told of a fault of the words
told_fault : (words : List (List ℕ)) (f : WordsFault) (old new : Option (List ℕ)) (status : ℕ) → WordsFail words f → TellsWords f old new status → EndsWords words old new status
told_fault words (Refused e) old new status fails told = told_error words e old new status fails told.0 told.1
told_fault words (Misused e) old new status fails told = by_words (inl fails.1.0) told.0 told.1
told_fault words (NoUntil text) old new status fails told = by_words (no_until words text.now fails.1) told.0 told.1
told_fault words (NoOrder text) old new status fails told = by_words (no_order words text.now fails.1) told.0 told.1
told_fault words OrderOfCertified old new status fails told = by_order fails told.0 told.1
told_fault words TwoDumps old new status fails told = by_dumps fails told.0 told.1
told_fault words Unread old new status fails told = by_words fails told.0 told.1
told_fault words Memory old new status fails told = by_memory told.0 told.1

pub returns-in-Ok : goal.returns-in-Ok
returns-in-Ok g c = with_call c.in-Ok.call c.in-Ok.ensures.ok c.answer_call.ensures

pub returns-in-Err : goal.returns-in-Err
returns-in-Err g c = without_call (told_fault _ c.in-Err.fault _ _ c.tell_words-status.result.0 c.in-Err.ensures.err c.tell_words-status.ensures) (Keeps-refl _) (Keeps-refl _)
