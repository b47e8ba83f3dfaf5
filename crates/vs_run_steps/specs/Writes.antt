-- What writes change of a run: the store, and by the tables what is active.
use Rattle.std.specs.Prelude.{ℕ, ◌≡◌, ◌<◌, List, [], ◌∷◌, map, length}
use Rattle.vs_design.specs.Parts.{Parts}
use Rattle.vs_design.specs.Stores.{Store, put}
use Rattle.vs_design.specs.Writes.{Write}
use Rattle.vs_run_active.specs.vs_eval.specs.Masks.{every_word}
use Rattle.vs_process.specs.declared.changes.Change.{Change}
use Rattle.vs_run_active.specs.vs_process.specs.States.{AssignState, State, touched, wakened, written}
use Rattle.vs_run_active.specs.declared.process.Process.{Process}
use Rattle.vs_run_active.specs.declared.tables.Tables.{Tables}
use Rattle.vs_run_active.specs.declared.watchers.ProcessTerm.{ProcessTerm}
use Rattle.vs_run_active.specs.ProcessPlaces.{GoneOn}
use Rattle.vs_run_active.specs.Waiting.{places_of}
use Rattle.vs_run_active.specs.Wakes.{AreWatched}
use Rattle.vs_run_active.specs.Touches.{woken_changes}
use Rattle.vs_run_active.specs.Waits.{triggered_changes}

-- the changes of some words have woken, one after another, what reads a bit that differs, and the processes that wait for it
pub record AreFollowed (d : Parts) (terms : List ProcessTerm) (tables : Tables) (changes : List Change)
    (assigns new_assigns : List AssignState) (processes new_processes : List Process) : Type 0 where
  pub assigns_are : new_assigns ≡ woken_changes changes assigns
  pub places_are : (counters : List (List ℕ)) → places_of counters new_processes ≡ triggered_changes changes (places_of counters processes)
  pub gone : GoneOn processes new_processes
  pub watched : AreWatched d terms tables new_assigns new_processes

-- they have where the tables are those of a design
abbrev pub Follows : Tables → List Change → List AssignState → List Process → List AssignState → List Process → Type 0
Follows tables changes assigns processes new_assigns new_processes =
    (d : Parts) (terms : List ProcessTerm) → AreWatched d terms tables assigns processes →
    AreFollowed d terms tables changes assigns new_assigns processes new_processes

-- a write to a store has woken the continuous assignments and the processes that it wakes in an execution (clauses 6.1.2 and 9.7.2)
pub record IsMade (d : Parts) (terms : List ProcessTerm) (tables : Tables) (store : Store) (w : Write)
    (assigns new_assigns : List AssignState) (processes new_processes : List Process) : Type 0 where
  pub assigns_are : new_assigns ≡ map (touched store (put store w)) assigns
  pub places_are : (counters : List (List ℕ)) → places_of counters new_processes ≡ map (wakened store (put store w)) (places_of counters processes)
  pub gone : GoneOn processes new_processes
  pub watched : AreWatched d terms tables new_assigns new_processes

-- it has where the tables are those of a design
abbrev pub Makes : Tables → Store → Write → List AssignState → List Process → List AssignState → List Process → Type 0
Makes tables store w assigns processes new_assigns new_processes =
    (d : Parts) (terms : List ProcessTerm) → AreWatched d terms tables assigns processes →
    IsMade d terms tables store w assigns new_assigns processes new_processes

-- so the state of an execution is that after the write
abbrev pub MakesWritten : Type 0
MakesWritten =
    (s : State) (w : Write) (d : Parts) (terms : List ProcessTerm) (tables : Tables) (counters : List (List ℕ)) (processes new_processes : List Process)
    (new_assigns : List AssignState) → s.places ≡ places_of counters processes → IsMade d terms tables s.store w s.assigns new_assigns processes new_processes →
    record s { store = put s.store w; assigns = new_assigns; places = places_of counters new_processes } ≡ written s w

-- each change is of a word of one of so many signals, of one size, and no word's number stands for all words
abbrev pub AreNamed : ℕ → List Change → Type 0
AreNamed count [] = Unit {0}
AreNamed count (c ∷ cs) = ((c.signal < count) × (c.word < every_word) × (length c.before ≡ length c.behind)) × AreNamed count cs
