-- How continuous assignments are evaluated and driven.
use Rattle.std.specs.Prelude.{ℕ, ◌≡◌, Some, List, length, slice_get}
use Rattle.vs_design.specs.declared.design.Assign.{Assign}
use Rattle.vs_design.specs.declared.signal.Signal.{Signal}
use Rattle.vs_design.specs.declared.statement.Target.{Target}
use Rattle.vs_design.specs.InOrder.{IsStoreOf, numbered_word}
use Rattle.vs_design.specs.Parts.{Parts}
use Rattle.vs_design.specs.Stores.{Store}
use Rattle.vs_eval.specs.Values.{target_value}
use Rattle.vs_eval.specs.Meant.{Meaning}
use Rattle.vs_run_active.specs.vs_process.specs.declared.spot.Spot.{Spot}
use Rattle.vs_run_active.specs.vs_process.specs.Spots.{IsSpotOf}
use Rattle.vs_run_steps.specs.declared.forms.Form.{Form}
use Rattle.vs_run_steps.specs.declared.forms.Form.TheVariants as f

-- the words of a signal have a size
pub record IsSized (signals : List Signal) (signal width : ℕ) : Type 0 where
  pub declared : Signal
  pub at : slice_get signals signal ≡ Some declared
  pub wide : declared.width ≡ width

-- the bits are those of a target, as many as it has
pub record IsPlaceOf (signals : List Signal) (t : Target) (spot : Spot) : Type 0 where
  pub spot_of : IsSpotOf signals t spot
  pub wide : spot.width ≡ t.width

-- a continuous assignment gives the whole word of a spot the value of the word of a number
pub record IsCopy (signals : List Signal) (a : Assign) (spot : Spot) (from : ℕ) : Type 0 where
  pub place : IsPlaceOf signals a.target spot
  pub whole : (store : Store) → IsStoreOf signals store → length (numbered_word store spot.index) ≡ spot.width
  pub copied : (store : Store) (time : ℕ) → IsStoreOf signals store → target_value a.target a.source store time ≡ numbered_word store from

-- a continuous assignment drives a spot, and its source is resolved
pub record IsFixed (signals : List Signal) (a : Assign) (spot : Spot) (source : Meaning) : Type 0 where
  pub place : IsPlaceOf signals a.target spot
  pub resolved : source ≡ record { signals = signals; expression = a.source }

-- the form is one of a continuous assignment
abbrev pub IsForm : List Signal → Assign → Form → Type 0
IsForm signals a (f.Copy spot from) = IsCopy signals a spot from
IsForm signals a (f.Fixed spot source) = IsFixed signals a spot source
IsForm signals a f.Other = Unit {0}

-- so are forms of those of a design, by their numbers
pub record AreForms (d : Parts) (forms : List Form) : Type 0 where
  pub each : (j : ℕ) (a : Assign) (form : Form) → slice_get forms j ≡ Some form → slice_get d.assigns j ≡ Some a → IsForm d.signals a form
