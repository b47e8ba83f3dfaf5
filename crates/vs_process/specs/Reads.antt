-- That a process reads what its statements name.
use Rattle.std.specs.Prelude.{ℕ, ◌≡◌, false, Some, None, List, map}
use Rattle.std.specs.List.{All, Contains, list_any}
use Rattle.vs_design.specs.declared.range.BitRange.{BitRange}
use Rattle.vs_design.specs.declared.statement.Statement.{Statement}
use Rattle.vs_design.specs.Statements.{statement_reads}
use Rattle.vs_design.specs.Stores.{Store, is_changed}
use Rattle.vs_design.specs.Uses.{joined}
use Rattle.vs_process.specs.vs_strobe.specs.Lines.{Format, full_line}
use Rattle.vs_process.specs.Landings.{todo_after}
use Rattle.vs_process.specs.Places.{Item, perform, turns, Todo, flat}
use Rattle.vs_process.specs.Steps.{Out, step}
use Rattle.vs_process.specs.ThreadLaws.{IsLeft}
use Rattle.vs_process.specs.Threads.{todo_reads}

-- a step without the line that a `$display` prints: where it leads, its write, its update, the call of a `$strobe`, and whether it is a `$finish`
-- stay. The line is left out as `todo_reads` has nothing of what calls print: a trace has no such line
abbrev pub mute : Out → Out
mute out = record out { line = None }

-- a step is the same in two stores between which nothing that it reads is changed, but for the line of a `$display`
abbrev pub StepsReadWhatIsNamed : Type 0
StepsReadWhatIsNamed =
    (a b : Store) (todo : Todo) (time : ℕ) → list_any (is_changed a b) (todo_reads todo) ≡ false → mute (step todo a time) ≡ mute (step todo b time)

-- the ranges that something which is to be done names to be read, those of its text
abbrev pub named_reads : Item → List BitRange
named_reads (perform s) = statement_reads s
named_reads (turns n s) = statement_reads s

-- the ranges that all that is to be done names to be read
abbrev pub all_named_reads : Todo → List BitRange
all_named_reads todo = joined (map named_reads todo)

-- one of the things to be done names a range to be read
pub record IsNamedByOne (todo : Todo) (r : BitRange) : Type 0 where
  pub item : Item
  pub is_to_do : Contains todo item
  pub named : Contains (named_reads item) r

-- each range that a step reads is named by a statement that was to be done
abbrev pub ReadsAreNamed : Type 0
ReadsAreNamed = (todo : Todo) → All (IsNamedByOne todo) (todo_reads todo)

-- a step, with the line of a `$display`, is the same in two stores between which nothing is changed that what was to be done names to be read
abbrev pub LinesReadWhatIsNamed : Type 0
LinesReadWhatIsNamed =
    (a b : Store) (todo : Todo) (time : ℕ) → list_any (is_changed a b) (all_named_reads todo) ≡ false → step todo a time ≡ step todo b time

-- what the call of a `$strobe` that a step makes prints at the end of the slot is the same in two such stores (clause 17.1.2)
abbrev pub StrobesReadWhatIsNamed : Type 0
StrobesReadWhatIsNamed =
    (todo : Todo) (store : Store) (time : ℕ) (f : Format) → (step todo store time).call ≡ Some f →
    (a b : Store) (end : ℕ) → list_any (is_changed a b) (all_named_reads todo) ≡ false → full_line f a end ≡ full_line f b end

-- each range that is named behind a step was named before it
abbrev pub NoReadIsAdded : Type 0
NoReadIsAdded =
    (todo : Todo) (store : Store) (time : ℕ) → All (Contains (all_named_reads todo)) (all_named_reads (todo_after (step todo store time).next))

-- what is to be done for a statement names the ranges that the statement reads, in their order
abbrev pub AllReadsAreThere : Type 0
AllReadsAreThere = (s : Statement) → all_named_reads (flat s) ≡ statement_reads s

-- no step of a process reads outside the ranges of its body
pub record ProcessesReadWhatIsNamed : Type 0 where
  pub named : (body : Statement) (todo : Todo) → IsLeft body todo → All (Contains (statement_reads body)) (todo_reads todo)
  -- in two stores between which none of these is changed it is the same, and so is its line
  pub same : (body : Statement) (a b : Store) (todo : Todo) (time : ℕ) → IsLeft body todo →
      list_any (is_changed a b) (statement_reads body) ≡ false → step todo a time ≡ step todo b time
  -- and so is what the call of a `$strobe` that it makes prints
  pub strobes : (body : Statement) (todo : Todo) (store : Store) (time : ℕ) (f : Format) → IsLeft body todo → (step todo store time).call ≡ Some f →
      (a b : Store) (end : ℕ) → list_any (is_changed a b) (statement_reads body) ≡ false → full_line f a end ≡ full_line f b end
