-- Where the watchers of a signal stand.
use Rattle.std.specs.Prelude.{ℕ, ◌≡◌, ◌≤◌, ◌+◌, Some, List, ◌++◌, map, length, slice_get}
use Rattle.vs_design.specs.vs_logic4.specs.declared.edge.Edge.TheVariants.{Any, Posedge, Negedge}
use Rattle.vs_design.specs.declared.design.Assign.{Assign}
use Rattle.vs_design.specs.declared.readers.Reader.{Reader}
use Rattle.vs_design.specs.Readers.{readers}
use Rattle.vs_run_active.specs.Lists.{named}
use Rattle.vs_run_active.specs.declared.rows.Row.{Row}
use Rattle.vs_run_active.specs.declared.watchers.Watcher.{Watcher}
use Rattle.vs_run_active.specs.declared.watchers.ProcessTerm.{ProcessTerm}
use Rattle.vs_run_active.specs.declared.groups.Groups.{Groups}
use Rattle.vs_run_active.specs.Groups.{Adds, Spells}
use Rattle.vs_run_active.specs.Watchers.{between, kind_watchers, reader_watcher}

-- the watchers of a signal: some that stand for those of its readers, and those of terms that name it
abbrev pub row_watchers : List Watcher → List ProcessTerm → List Watcher
row_watchers front terms = ((front ++ kind_watchers Any terms) ++ kind_watchers Posedge terms) ++ kind_watchers Negedge terms

-- where they stand, from a place on
abbrev pub row_at : ℕ → List Watcher → List ProcessTerm → Row
row_at from front terms =
    let any = from + length front in
    let rising = any + length (kind_watchers Any terms) in
    let falling = rising + length (kind_watchers Posedge terms) in
    record { readers = from; any = any; rising = rising; falling = falling; end = falling + length (kind_watchers Negedge terms) }

-- the parts of a row stand one after another, before the end of so many watchers
abbrev pub Fits : Row → ℕ → Type 0
Fits row count =
    (row.readers ≤ row.any) × (row.any ≤ row.rising) × (row.rising ≤ row.falling) × (row.falling ≤ row.end) × (row.end ≤ count)

-- each of some rows does
abbrev pub RowsFit : List Row → List Watcher → Type 0
RowsFit rows watchers = (signal : ℕ) (row : Row) → slice_get rows signal ≡ Some row → Fits row (length watchers)

-- a row tells where the watchers of a signal stand: those that stand for its readers, and those of these terms
pub record IsRow (row : Row) (watchers front : List Watcher) (terms : List ProcessTerm) : Type 0 where
  pub readers : between row.readers row.any watchers ≡ front
  pub any : between row.any row.rising watchers ≡ kind_watchers Any terms
  pub rising : between row.rising row.falling watchers ≡ kind_watchers Posedge terms
  pub falling : between row.falling row.end watchers ≡ kind_watchers Negedge terms
  pub fits : Fits row (length watchers)

-- a row of a signal that these assignments read and these terms name; whatever comes after the watchers, it tells where its own stand
pub record HasRow (row : Row) (groups : Groups) (watchers : List Watcher) (read : List Reader) (terms : List ProcessTerm) : Type 0 where
  pub front : List Watcher
  pub tells : (rest : List Watcher) → IsRow row (watchers ++ rest) front terms
  pub spells : Spells groups front (map reader_watcher read)

-- one row more, of watchers that stand for others
pub record RowAdded (old new : Groups) (before after : List Watcher) (row : Row) (plain : List Watcher) (terms : List ProcessTerm) : Type 0 where
  pub middle : List Watcher
  pub adds : Adds old new before middle plain
  pub after_is : after ≡ before ++ row_watchers adds.watchers terms
  pub row_is : row ≡ row_at (length before) adds.watchers terms

-- the rows of the first signals, and the watchers of all of these
pub record AreRows (count : ℕ) (assigns : List Assign) (terms : List ProcessTerm) (groups : Groups) (rows : List Row) (watchers : List Watcher) : Type 0 where
  pub all : length rows ≡ count
  pub known : groups.assigns ≡ length assigns
  pub each : (signal : ℕ) (row : Row) → slice_get rows signal ≡ Some row → HasRow row groups watchers (readers assigns signal) (named signal terms)
