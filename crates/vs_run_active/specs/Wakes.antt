-- What the change of a word wakes, by the watchers of its signal.
use Rattle.std.specs.Prelude.{ℕ, ◌≡◌, ◌<◌, ◌^◌, Bool, Some, List, [], ◌∷◌, map, length, slice_get, if◌then◌else◌}
use Rattle.vs_design.specs.vs_logic4.specs.declared.digit.Digit.{Digit}
use Rattle.vs_design.specs.vs_logic4.specs.declared.edge.Edge.{Edge}
use Rattle.vs_design.specs.vs_logic4.specs.declared.edge.Edge.TheVariants.{Any, Posedge, Negedge}
use Rattle.vs_design.specs.Parts.{Parts}
use Rattle.vs_run_active.specs.vs_eval.specs.declared.masks.WordChange.{WordChange}
use Rattle.vs_run_active.specs.vs_eval.specs.Differences.{word_changes}
use Rattle.vs_run_active.specs.vs_eval.specs.Masks.{AreEdges, IsChangeOf, has_bits}
use Rattle.vs_run_active.specs.vs_process.specs.States.{AssignState}
use Rattle.vs_run_active.specs.declared.process.Process.{Process}
use Rattle.vs_run_active.specs.ProcessPlaces.{GoneOn, gone_on}
use Rattle.vs_run_active.specs.Waiting.{AreWaiting, places_of, waits_for}
use Rattle.vs_run_active.specs.Triggers.{triggered_by}
use Rattle.vs_run_active.specs.declared.rows.Row.{Row}
use Rattle.vs_run_active.specs.declared.tables.Tables.{Tables}
use Rattle.vs_run_active.specs.declared.watchers.ProcessTerm.{ProcessTerm}
use Rattle.vs_run_active.specs.declared.watchers.Watcher.{Watcher}
use Rattle.vs_run_active.specs.Rows.{AreRows}
use Rattle.vs_run_active.specs.Watchers.{between}
use Rattle.vs_run_active.specs.Walks.{walked}
use Rattle.vs_run_active.specs.Touches.{AreOf, woken_by, woken_in}

-- whether a watcher sees one of these bits of a word
abbrev pub has_one : ℕ → ℕ → Watcher → Bool
has_one word bits w = has_bits w.mask word bits

-- continuous assignments of which those of these numbers have to be evaluated
abbrev pub woken_all : List ℕ → List AssignState → List AssignState
woken_all [] xs = xs
woken_all (n ∷ ns) xs = woken_all ns (woken_in n xs)

-- continuous assignments of which those have to be evaluated that watchers name which pass a test
abbrev pub woken_watched : (Watcher → Bool) → List Watcher → List AssignState → List AssignState
woken_watched test [] xs = xs
woken_watched test (w ∷ ws) xs = woken_watched test ws (if test w then woken_in w.number xs else xs)

-- processes of which those go on that wait for a control which watchers name that see one of these bits of a word
abbrev pub walked_by : ℕ → ℕ → List Watcher → List Process → List Process
walked_by word bits ws xs = walked waits_for gone_on (has_one word bits) ws xs

-- watchers of one kind have been looked at, by the bits of a word at which it changes so
pub record KindWalked (edge : Edge) (watchers : List Watcher) (word : ℕ) (before after : List Digit) (old new : List Process) : Type 0 where
  pub number : ℕ
  pub fits : number < 2 ^ 64
  pub edges : AreEdges edge before after number
  pub new_is : new ≡ walked_by word number watchers old

-- they have, whatever word it is that changes so
abbrev pub KindsWalked : Edge → List Watcher → ℕ → WordChange → List Process → List Process → Type 0
KindsWalked edge watchers word change old new =
    (before after : List Digit) → IsChangeOf change before after → KindWalked edge watchers word before after old new

-- the watchers of a row have been: those of any change, those of a rise, those of a fall
pub record AreWalked (watchers : List Watcher) (row : Row) (word : ℕ) (change : WordChange) (old new : List Process) : Type 0 where
  pub first : List Process
  pub second : List Process
  pub any : KindsWalked Any (between row.any row.rising watchers) word change old first
  pub rising : KindsWalked Posedge (between row.rising row.falling watchers) word change first second
  pub falling : KindsWalked Negedge (between row.falling row.end watchers) word change second new

-- those of the row of a signal have been
abbrev pub RowWalked : Tables → ℕ → ℕ → WordChange → List Process → List Process → Type 0
RowWalked tables signal word change old new =
    (row : Row) → slice_get tables.rows.items signal ≡ Some row → AreWalked tables.watchers.items row word change old new

-- the tables are those of a design and of the terms of its processes' event controls, by which the continuous assignments and the processes wait
pub record AreWatched (d : Parts) (terms : List ProcessTerm) (tables : Tables) (assigns : List AssignState) (processes : List Process) : Type 0 where
  pub rows : AreRows (length d.signals) d.assigns terms tables.groups tables.rows.items tables.watchers.items
  pub sources : AreOf d assigns
  pub waiting : AreWaiting terms processes

-- the change of a word has woken what reads a bit of it that differs, and the processes that wait for it
pub record AreWoken (d : Parts) (terms : List ProcessTerm) (tables : Tables) (signal word : ℕ) (before after : List Digit)
    (assigns new_assigns : List AssignState) (processes new_processes : List Process) : Type 0 where
  pub assigns_are : new_assigns ≡ map (woken_by (word_changes signal word (Some before) (Some after))) assigns
  pub places_are : (counters : List (List ℕ)) → places_of counters new_processes ≡ map (triggered_by signal word (Some before) (Some after)) (places_of counters processes)
  pub gone : GoneOn processes new_processes
  pub watched : AreWatched d terms tables new_assigns new_processes

-- it has where the tables are those of a design
abbrev pub Wakes : Tables → ℕ → ℕ → WordChange → List AssignState → List Process → List AssignState → List Process → Type 0
Wakes tables signal word change assigns processes new_assigns new_processes =
    (d : Parts) (terms : List ProcessTerm) (before after : List Digit) → AreWatched d terms tables assigns processes → IsChangeOf change before after →
    AreWoken d terms tables signal word before after assigns new_assigns processes new_processes
