-- Two executions of one design whose value change dumps show different values, or whose lines of `$strobe` aren't the same.
use Rattle.std.specs.Prelude.{ℕ, ◌≡◌, true, Some, List, slice_get}
use Rattle.vs_design.specs.vs_logic4.specs.declared.digit.Digit.{Digit}
use Rattle.vs_design.specs.declared.signal.Signal.{Signal}
use Rattle.vs_design.specs.Parts.{Parts}
use Rattle.vs_process.specs.declared.moves.Grain.TheVariants.{Statement, Block}
use Rattle.vs_process.specs.declared.moves.Move.{Move}
use Rattle.vs_process.specs.Executions.{after, Legal, is_complete, trace}
use Rattle.vs_kernel.specs.vs_vcd_writing.specs.Shown.{Shows}
use Rattle.vs_kernel.specs.vs_vcd_writing.specs.Text.{vcd_text}
use Rattle.vs_sign_off.specs.Rows.{rows, times}
use Rattle.vs_sign_off.specs.Strobes.{strobe_text}
use Rattle.vs_sign_off.specs.declared.witness.LineWitness.{LineWitness}
use Rattle.vs_sign_off.specs.declared.witness.Witness.{Witness}

-- an execution of a design that is permitted at both grains and complete to a moment, and whose value change dump shows a signal with this value,
-- lowest digit first, at that moment (clauses 11.4.2 and 18.2)
pub record Gives (d : Parts) (time signal : ℕ) (value : List Digit) : Type 0 where
  pub moves : List Move
  pub statement : Legal Statement d moves
  pub block : Legal Block d moves
  pub complete : is_complete time (after d moves) ≡ true
  pub shows : Shows (vcd_text d (trace d moves time) time) d time signal value

-- a signal of a design has this path as it is printed
pub record HasPath (d : Parts) (number : ℕ) (path : List ℕ) : Type 0 where
  pub signal : Signal
  pub is : slice_get d.signals number ≡ Some signal
  pub printed : signal.path.items ≡ path

-- two executions of a design: the dump of one shows a signal with one value, that of the other shows it with another one
pub record IsWitness (d : Parts) (w : Witness) : Type 0 where
  pub path : HasPath d w.signal w.path.items
  pub first : Gives d w.time w.signal w.first
  pub other : Gives d w.time w.signal w.other
  pub unequal : w.first ≡ w.other → ⊥

-- an execution of a design that is permitted at both grains and complete to a moment, and to which `$strobe` prints a row so many times (clauses 11.4.2
-- and 17.1.2)
pub record Prints (d : Parts) (time : ℕ) (row : List ℕ) (count : ℕ) : Type 0 where
  pub moves : List Move
  pub statement : Legal Statement d moves
  pub block : Legal Block d moves
  pub complete : is_complete time (after d moves) ≡ true
  pub prints : times row (rows (strobe_text d moves time)) ≡ count

-- two executions of a design: in one `$strobe` prints a row so many times to the moment, in the other one not so many times
pub record IsLineWitness (d : Parts) (w : LineWitness) : Type 0 where
  pub first : Prints d w.time w.row.items w.first
  pub other : Prints d w.time w.row.items w.other
  pub unequal : w.first ≡ w.other → ⊥
