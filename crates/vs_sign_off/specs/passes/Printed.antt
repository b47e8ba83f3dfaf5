-- What `$strobe` prints of an execution.
use Rattle.std.specs.Prelude.{ℕ, ◌≡◌, true, List}
use Rattle.vs_design.specs.Parts.{Parts}
use Rattle.vs_process.specs.declared.moves.Grain.TheVariants.{Statement, Block}
use Rattle.vs_process.specs.declared.moves.Move.{Move}
use Rattle.vs_process.specs.Executions.{after, Legal, is_complete}
use Rattle.vs_sign_off.specs.Strobes.{strobe_text}

-- an execution that is permitted at both grains and complete to a moment, and of which `$strobe` prints this text
pub record Print (d : Parts) (time : ℕ) (text : List ℕ) : Type 0 where
  pub moves : List Move
  pub statement : Legal Statement d moves
  pub block : Legal Block d moves
  pub complete : is_complete time (after d moves) ≡ true
  pub printed : text ≡ strobe_text d moves time
