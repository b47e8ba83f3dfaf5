-- Marks behind moves.
use Rattle.std.proofs.Common.{◌≡◌, ℕ, suc, ◌*◌, ◌<◌, Bool, true, false, if◌then◌else◌, Option, Some, None, is_some, true≢false, List, [], ◌∷◌, length, map, refl, sym, ◌∙◌, ap, subst, arith}
use Rattle.std.specs.Prelude.{unwrap_or}
use Rattle.std.proofs.lemmas.List.{length-map}
use Rattle.std.proofs.lemmas.Option.{slice_get_within}
use Rattle.vs_design.specs.vs_logic4.specs.declared.digit.Digit.{Digit}
use Rattle.vs_design.specs.vs_logic4.specs.declared.digit.Digit.TheVariants.{X}
use Rattle.vs_design.specs.declared.signal.Signal.{Signal}
use Rattle.vs_design.specs.Parts.{Parts}
use Rattle.vs_design.specs.Stores.{Store, word_in}
use Rattle.std.specs.Io.KnownBytes.{Appends}
use Rattle.vs_design.specs.Traces.{Line, Slot}
use Rattle.vs_run_active.specs.vs_process.specs.declared.moves.Move.TheVariants.{EndSlot}
use Rattle.vs_run_active.specs.vs_process.specs.Executions.{ended_slot}
use Rattle.vs_run_active.specs.vs_process.specs.States.{Called, State}
use Rattle.vs_run_steps.specs.Prints.{lines_text}
use Rattle.vs_run_steps.specs.Slots.{AppendsSlots}
use Rattle.vs_run_steps.proofs.Appending.{append_none}
use Rattle.vs_run_steps.proofs.WritingLemmas.{ended_here}
use Rattle.vs_vcd_writing.proofs.ProgressLemmas.{vcd_slots-push}
use Rattle.vs_kernel.specs.vs_run_active.specs.Changes.{MarkChanges}
use Rattle.vs_vcd_writing.specs.Codes.{is_array}
use Rattle.vs_vcd_writing.specs.CodeTables.{code_table}
use Rattle.vs_kernel.specs.vs_run_active.proofs.MarkingLemmas.{unmarked}
use Rattle.vs_vcd_writing.specs.Progress.{Covers, HasWritten, Progress, vcd_slot}
use Rattle.vs_run_steps.specs.Recording.{CoversNoted, HasNoted, HasRoom}
use Rattle.vs_run_steps.specs.Runs.{Running, marks_of, state_of}
use Rattle.vs_kernel.specs.Snapshot.{HasKept, IsKept}

-- ---- the marks cover what changes

one_code : (b : Bool) (first n : ℕ) (rest more : List (Option ℕ)) → length rest ≡ n → length more ≡ n → length (if b then None ∷ rest else Some first ∷ more) ≡ suc n
one_code true first n rest more h k = ap suc h
one_code false first n rest more h k = ap suc k

length-codes : (first : ℕ) (ss : List Signal) → length (code_table first ss) ≡ length ss
length-codes first [] = refl
length-codes first (s ∷ ss) =
    one_code (is_array s) first (length ss) (code_table first ss) (code_table (suc first) ss) (length-codes first ss) (length-codes (suc first) ss)

-- before the first slot nothing need be marked
covers_first : {d : Parts} {writer : Progress} (marks : List ℕ) (s : Store) → HasWritten writer d [] → Covers marks writer s
covers_first marks s h = λ t i n k last here code off. absurd (none_some t (sym h.last ∙ last))
  where
    none_some : (t : ℕ) → None ≡ Some t → ⊥
    none_some t e = cc

-- behind a slot
covers_clear : (marks : List ℕ) (writer : Progress) (s : Store) → Covers [] writer s → Covers marks writer s
covers_clear marks writer s h = λ t i n k last here code off. h t i n k last here code (unmarked [] (λ j. refl) i)

-- behind a move
covers_on : {d : Parts} {slots : List Slot} {writer : Progress} (old new : List ℕ) (s t : Store) → HasWritten writer d slots → length d.signals < 512 * length old → Covers old writer s → MarkChanges old new s t →
    Covers new writer t
covers_on {d} {slots} {writer} old new s t h room covers changes = λ time i n k last here code off.
    let size : length writer.kept ≡ length d.signals = sym (length-map writer.kept (λ k. k.code)) ∙ ap length h.codes ∙ length-codes 0 d.signals in
    let m = changes.marked i off (omega (arith, slice_get_within writer.kept i k here, size, room)) in
    covers time i n k last here code m.0 ∙ ap (λ (o : Option (List (List Digit))). unwrap_or (word_in o 0) (X ∷ [])) (sym m.1)

-- ---- the same of a run that may record nothing

pub noted_first : (d : Parts) (writer : Option Progress) (known : Option (List ℕ)) (marks : List ℕ) (s : Store) → HasNoted writer known d [] → CoversNoted marks writer s
noted_first d None known marks s h = tt
noted_first d (Some w) known marks s h = covers_first marks s h

pub noted_clear : (marks : List ℕ) (writer : Option Progress) (s : Store) → CoversNoted [] writer s → CoversNoted marks writer s
noted_clear marks None s h = tt
noted_clear marks (Some w) s h = covers_clear marks w s h

-- the marks go on with what changes
kept_by : (d : Parts) (slots : List Slot) (old new : List ℕ) (writer : Option Progress) (s t : Store) → HasKept writer d slots → HasRoom d old writer → CoversNoted old writer s → MarkChanges old new s t →
    CoversNoted new writer t × HasRoom d new writer
kept_by d slots old new None s t kept room covers changes = (tt, tt)
kept_by d slots old new (Some w) s t kept room covers changes = (covers_on old new s t kept room covers changes, omega (arith, room, changes.len))

pub kept_on : (d : Parts) (r t : Running) (writer : Option Progress) → IsKept d r writer → MarkChanges (marks_of r) (marks_of t) (state_of r).store (state_of t).store → IsKept d t writer
kept_on d r t writer h changes =
    let both = kept_by d h.slots (marks_of r) (marks_of t) writer (state_of r).store (state_of t).store h.kept h.room h.covers changes in
    record { slots = h.slots; kept = h.kept; covers = both.0; room = both.1; few = omega (arith, h.few, changes.len) }

-- slots that are recorded are kept
pub kept_noted : (writer : Option Progress) (known : Option (List ℕ)) (d : Parts) (slots : List Slot) → HasNoted writer known d slots → HasKept writer d slots
kept_noted None known d slots h = tt
kept_noted (Some w) known d slots h = h

-- after one more slot
pub kept_slot : (d : Parts) (slots more : List Slot) (old new : Option Progress) (known after : Option (List ℕ)) → HasKept old d slots → is_some new ≡ is_some old →
    (HasNoted old known d slots → HasNoted new after d more) → HasKept new d more
kept_slot d slots more None None known after h same noted = tt
kept_slot d slots more None (Some w) known after h same noted = absurd (true≢false same)
kept_slot d slots more (Some v) None known after h same noted = tt
kept_slot d slots more (Some v) (Some w) known after h same noted = noted h

-- there is room where a run that recorded before records still
pub room_on : (d : Parts) (old new : List ℕ) (writer writer' : Option Progress) → HasRoom d old writer → length new ≡ length old → is_some writer' ≡ is_some writer → HasRoom d new writer'
room_on d old new writer None h len same = tt
room_on d old new None (Some w) h len same = absurd (true≢false same)
room_on d old new (Some v) (Some w) h len same = omega (arith, h, len)

-- ---- where no slots are written

pub unnoted : (w : Option Progress) (known : Option (List ℕ)) (d : Parts) (before more : List Slot) → is_some w ≡ false → HasNoted w known d before → HasNoted w known d more
unnoted None known d before more none h = h
unnoted (Some w) known d before more none h = absurd (true≢false none)

pub unnoted_bytes : (w : Option Progress) (known : Option (List ℕ)) (d : Parts) (before : List Slot) (s : State) → is_some w ≡ false → HasNoted w known d before → AppendsSlots known known d before (ended_slot EndSlot s)
unnoted_bytes None known d before s none h = (
  vcd_slot d before (ended_here s),
  vcd_slots-push d before (ended_here s),
  subst (λ (o : Option (List ℕ)). Appends o o (vcd_slot d before (ended_here s))) (sym h) tt,
)
unnoted_bytes (Some w) known d before s none h = absurd (true≢false none)

pub none_called : (known : Option (List ℕ)) (line : Called → Line) (calls : List Called) → calls ≡ [] → Appends known known (lines_text (map line calls))
none_called known line calls none = subst (λ (l : List Called). Appends known known (lines_text (map line l))) (sym none) (append_none known)
