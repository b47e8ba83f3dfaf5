-- Values that two dumps give at one time.
use Rattle.std.specs.Prelude.{ℕ, ◌≡◌, true, Some, List, slice_get}
use Rattle.vs_design.specs.vs_logic4.specs.declared.digit.Digit.{Digit}
use Rattle.vs_design.specs.declared.signal.Signal.{Signal}
use Rattle.vs_design.specs.Parts.{Parts}
use Rattle.vs_process.specs.declared.moves.Grain.TheVariants.{Statement, Block}
use Rattle.vs_process.specs.declared.moves.Move.{Move}
use Rattle.vs_process.specs.Executions.{after, Legal, is_complete, trace}
use Rattle.vs_kernel.specs.vs_vcd_writing.specs.Codes.{shown, shown_from}
use Rattle.vs_kernel.specs.vs_vcd_writing.specs.Shown.{Shows}
use Rattle.vs_kernel.specs.vs_vcd_writing.specs.Text.{vcd_text}
use Rattle.vs_sign_off.specs.declared.unequal.Unequal.{Unequal}

-- an execution that is permitted at both grains and complete to a moment, and whose dump shows these values then of the signals that are no arrays, in
-- design order
pub record Give (d : Parts) (time : ℕ) (values : List (List Digit)) : Type 0 where
  pub moves : List Move
  pub statement : Legal Statement d moves
  pub block : Legal Block d moves
  pub complete : is_complete time (after d moves) ≡ true
  pub shows : (place signal : ℕ) (value : List Digit) → slice_get (shown d) place ≡ Some signal → slice_get values place ≡ Some value →
      Shows (vcd_text d (trace d moves time) time) d time signal value

-- a signal of which two lists of values have different ones
pub record AreUnequal (signals : List Signal) (one other : List (List Digit)) (u : Unequal) : Type 0 where
  pub place : ℕ
  pub shown : slice_get (shown_from 0 signals) place ≡ Some u.signal
  pub first : slice_get one place ≡ Some u.first
  pub second : slice_get other place ≡ Some u.other
  pub differ : u.first ≡ u.other → ⊥
