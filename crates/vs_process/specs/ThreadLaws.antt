-- That a process writes what its statements name.
use Rattle.std.specs.Prelude.{ℕ, ◌≡◌, false, Some, List, [], slice_get}
use Rattle.std.specs.List.{All, Contains, list_any}
use Rattle.vs_design.specs.vs_logic4.specs.declared.digit.Digit.{Digit}
use Rattle.vs_design.specs.declared.design.Assign.{Assign}
use Rattle.vs_design.specs.declared.design.Process.{Process}
use Rattle.vs_design.specs.declared.range.BitRange.{BitRange}
use Rattle.vs_design.specs.declared.statement.Statement.{Statement}
use Rattle.vs_design.specs.Parts.{Parts}
use Rattle.vs_design.specs.Stores.{Store, put}
use Rattle.vs_design.specs.Uses.{covers, is_of}
use Rattle.vs_design.specs.WellFormed.{WellFormed}
use Rattle.vs_design.specs.Writes.{Write, names}
use Rattle.vs_process.specs.vs_eval.specs.Laws.{digit_of}
use Rattle.vs_process.specs.vs_eval.specs.Targets.{assigned}
use Rattle.vs_process.specs.Landings.{todo_after}
use Rattle.vs_process.specs.Places.{Item, Todo, flat}
use Rattle.vs_process.specs.Steps.{step}
use Rattle.vs_process.specs.Writes.{item_writes, statement_writes, todo_writes}

-- a write lies in ranges
pub record LiesIn (ranges : List BitRange) (w : Write) : Type 0 where
  -- it names no signal but theirs, be its bits in range or not
  pub signals : (signal : ℕ) → list_any (is_of signal) ranges ≡ false → names w signal ≡ false
  -- in every store it keeps each digit that none of them covers
  pub digits : (store : Store) (signal word place : ℕ) → list_any (covers signal word place) ranges ≡ false →
      digit_of (put store w) signal word place ≡ digit_of store signal word place

-- a write lies in the ranges that one of the things to be done can write
pub record LiesInOne (todo : Todo) (w : Write) : Type 0 where
  pub item : Item
  pub is_to_do : Contains todo item
  pub lies : LiesIn (item_writes item) w

-- what a step writes at once lies in the ranges of a statement that was to be done (clause 9.2.1)
abbrev pub WritesAreNamed : Type 0
WritesAreNamed = (todo : Todo) (store : Store) (time : ℕ) (w : Write) → (step todo store time).write ≡ Some w → LiesInOne todo w

-- so does what the update that it makes carries (clause 9.2.2)
abbrev pub UpdatesAreNamed : Type 0
UpdatesAreNamed = (todo : Todo) (store : Store) (time : ℕ) (u : ℕ × Write) → (step todo store time).update ≡ Some u → LiesInOne todo u.1

-- each range of what is to be done behind a step is one of what was to be done before it
abbrev pub NoneIsAdded : Type 0
NoneIsAdded = (todo : Todo) (store : Store) (time : ℕ) → All (Contains (todo_writes todo)) (todo_writes (todo_after (step todo store time).next))

-- what is to be done for a statement has the statement's ranges, in their order
abbrev pub AllAreThere : Type 0
AllAreThere = (s : Statement) → todo_writes (flat s) ≡ statement_writes s

-- what a process of this body has to do, when it starts or behind some steps, whatever the stores and the times at which it takes them
pub data IsLeft (body : Statement) : Todo → Type 0 where
  start : IsLeft body (flat body)
  behind : (todo : Todo) (store : Store) (time : ℕ) → IsLeft body todo → IsLeft body (todo_after (step todo store time).next)

-- no step of a process writes outside the ranges of its body, neither at once nor by an update
pub record ProcessesWriteWhatIsNamed : Type 0 where
  pub written : (body : Statement) (todo : Todo) (store : Store) (time : ℕ) (w : Write) → IsLeft body todo →
      (step todo store time).write ≡ Some w → LiesIn (statement_writes body) w
  pub updated : (body : Statement) (todo : Todo) (store : Store) (time : ℕ) (u : ℕ × Write) → IsLeft body todo →
      (step todo store time).update ≡ Some u → LiesIn (statement_writes body) u.1

-- a write has a part
abbrev pub HasPart : Write → Type 0
HasPart w = w ≡ [] → ⊥

-- no write of a well-formed design is empty: not what a step of a process writes at once, not what its update carries, and not what a continuous
-- assignment drives (clauses 6.1 and 9.2)
pub record WritesHaveParts : Type 0 where
  pub written : (d : Parts) → WellFormed d → (i : ℕ) (p : Process) (todo : Todo) (store : Store) (time : ℕ) (w : Write) → slice_get d.processes i ≡ Some p →
      IsLeft p.body todo → (step todo store time).write ≡ Some w → HasPart w
  pub updated : (d : Parts) → WellFormed d → (i : ℕ) (p : Process) (todo : Todo) (store : Store) (time : ℕ) (u : ℕ × Write) → slice_get d.processes i ≡ Some p →
      IsLeft p.body todo → (step todo store time).update ≡ Some u → HasPart u.1
  pub driven : (d : Parts) → WellFormed d → (j : ℕ) (a : Assign) (digits : List Digit) (store : Store) (time : ℕ) → slice_get d.assigns j ≡ Some a →
      HasPart (assigned a.target digits store time)
