-- What processes print by `$display`, slot by slot, and when it does not depend on the order of steps (clause 17.1.1).
use Rattle.std.specs.Prelude.{ℕ, ◌==◌, ◌≡◌, ◌⊎◌, ◌++◌, not, Bool, true, Some, List, [], ◌∷◌, filter, get_or, leb, slice_get}
use Rattle.std.specs.List.{Contains}
use Rattle.vs_design.specs.declared.range.BitRange.{BitRange}
use Rattle.vs_design.specs.Parts.{Parts}
use Rattle.vs_design.specs.Traces.{Line, Slot}
use Rattle.vs_design.specs.Uses.{writes_signal}
use Rattle.vs_design.specs.WellFormed.{WellFormed}
use Rattle.vs_process.specs.Places.{ended, is_going}
use Rattle.vs_process.specs.declared.moves.Grain.{Grain}
use Rattle.vs_process.specs.declared.moves.Move.{Move}
use Rattle.vs_process.specs.declared.moves.Move.TheVariants.{Step, EndSlot}
use Rattle.vs_process.specs.States.{State, AssignState}
use Rattle.vs_process.specs.Executions.{after, is_complete, Legal, lines_of, slots, step_lines}
use Rattle.vs_process.specs.BlockDrivers.{puts_out}
use Rattle.vs_process.specs.Threads.{Thread, IsThread, IsFiredBy, writes, place_shows}
use Rattle.vs_independence.specs.Discipline.{BeginsSlot, Disciplined, Reaches}

-- ---- lines

-- the line of a `$display` that a move makes; those of a `$strobe` are made at the end of the slot (clauses 17.1.1 and 17.1.2)
abbrev pub displayed : Move → State → List Line
displayed (Step i) s = step_lines s i (slice_get s.places i)
displayed _ s = []

-- the lines of the slot that goes on after a move, by those before it
abbrev pub lines_after : Move → List Line → State → List Line
lines_after EndSlot lines s = []
lines_after m lines s = lines ++ displayed m s

-- the lines of `$display` that the slot which goes on has made, the earliest first
abbrev pub lines_so_far : Parts → List Move → List Line
lines_so_far d [] = []
lines_so_far d (m ∷ before) = lines_after m (lines_so_far d before) (after d before)

-- a slot that ended: its time, and the lines of `$display` that were made in it, the earliest first
pub record DisplaySlot : Type 0 where
  pub time : ℕ
  pub lines : List Line

-- the slot that a move ends
abbrev pub ended_display : Move → State → List Line → List DisplaySlot
ended_display EndSlot s lines = record { time = s.time; lines = lines } ∷ []
ended_display _ s lines = []

-- the slots that ended, the earliest first
abbrev pub display_slots : Parts → List Move → List DisplaySlot
display_slots d [] = []
display_slots d (m ∷ before) = display_slots d before ++ ended_display m (after d before) (lines_so_far d before)

abbrev pub is_display_by : ℕ → DisplaySlot → Bool
is_display_by until slot = leb slot.time until

-- the slots of an execution that ended at a moment or before it
abbrev pub displays : Parts → List Move → ℕ → List DisplaySlot
displays d moves until = filter (is_display_by until) (display_slots d moves)

abbrev pub is_line_of : ℕ → Line → Bool
is_line_of i line = line.by == i

-- the lines of one process among others, in their order
abbrev pub lines_of_process : ℕ → List Line → List Line
lines_of_process i lines = filter (is_line_of i) lines

-- two slots are at one time, and in both each of these processes made the same lines in the same order
pub record SameDisplaySlot (counts : ℕ → Bool) (a b : DisplaySlot) : Type 0 where
  pub time : a.time ≡ b.time
  pub lines : (i : ℕ) → counts i ≡ true → lines_of_process i a.lines ≡ lines_of_process i b.lines

abbrev pub SameDisplays : (ℕ → Bool) → List DisplaySlot → List DisplaySlot → Type 0
SameDisplays counts [] [] = Unit {0}
SameDisplays counts (a ∷ as') (b ∷ bs) = SameDisplaySlot counts a b × SameDisplays counts as' bs
SameDisplays counts _ _ = ⊥

-- in two executions that are complete to a moment each of these processes made, in each slot to it, the same lines of `$display` in the same order
abbrev pub DisplaysAlike : Grain → Parts → (ℕ → Bool) → Type 0
DisplaysAlike grain d counts =
    (until : ℕ) (xs ys : List Move) → Legal grain d xs → Legal grain d ys →
    is_complete until (after d xs) ≡ true → is_complete until (after d ys) ≡ true →
    SameDisplays counts (displays d xs until) (displays d ys until)

-- all lines that slots made: those of each `$display` first, then those of the `$strobe` calls, which are made at the slot's end
abbrev pub lines_in : List DisplaySlot → List Slot → List Line
lines_in [] slots = []
lines_in (shown ∷ more) [] = []
lines_in (shown ∷ more) (slot ∷ slots) = shown.lines ++ slot.lines ++ lines_in more slots

-- an execution makes these lines and no others: those of the slots that ended, and those of `$display` in the slot that goes on
abbrev pub LinesAreOfSlots : Type 0
LinesAreOfSlots =
    (d : Parts) (moves : List Move) → lines_of d moves ≡ lines_in (display_slots d moves) (slots d moves) ++ lines_so_far d moves

-- ---- what a process shows

-- in the slot that begins with the state `b` no other process can have changed these ranges for a process, but for the signal that fired it, nor, of
-- what drivers write, can a write of its own or a driver that the slot found unsettled
pub record IsSteady (d : Parts) (blocks : ℕ → Bool) (b : State) (i : ℕ) (th : Thread) (is : IsThread d blocks b i th)
    (ranges : List BitRange) : Type 0 where
  pub others : (k u : ℕ) (r : BitRange) (other : Thread) → IsThread d blocks b k other → Contains ranges r →
      writes other u ≡ true → Reaches d blocks u r → (k ≡ i) ⊎ IsFiredBy d blocks b i th is r.signal
  pub own : (u : ℕ) (r : BitRange) → Contains ranges r → writes th u ≡ true → Reaches d blocks u r → u ≡ r.signal
  pub settled : (j u : ℕ) (r : BitRange) (x : AssignState) → Contains ranges r → slice_get b.assigns j ≡ Some x → x.needs ≡ true →
      writes_signal x.target u ≡ true → Reaches d blocks u r → ⊥
  pub rested : (k u : ℕ) (r : BitRange) → Contains ranges r → blocks k ≡ true → is_going (get_or b.places k ended) ≡ true →
      puts_out d k u ≡ true → Reaches d blocks u r → ⊥

-- so it is of what each process of the slot shows, each alone
abbrev pub ShowsApart : Parts → (ℕ → Bool) → State → Type 0
ShowsApart d blocks b = (i : ℕ) (th : Thread) (is : IsThread d blocks b i th) → IsSteady d blocks b i th is (place_shows th.place)

-- where it is so in each slot of a disciplined design, the lines of its processes that are no blocks do not depend on the order in which its
-- permitted steps are taken; those of its blocks can
abbrev pub DisciplineMakesDisplaysAlike : Type 0
DisciplineMakesDisplaysAlike =
    (grain : Grain) (d : Parts) → WellFormed d → (discipline : Disciplined grain d) →
    ((b : State) → BeginsSlot grain d b → ShowsApart d discipline.roles.blocks b) →
    DisplaysAlike grain d (λ i. not (discipline.roles.blocks i))
