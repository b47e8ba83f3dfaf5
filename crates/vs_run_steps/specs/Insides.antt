-- The combinational block that has taken a step since its control, where the blocks are told.
use Rattle.std.specs.Prelude.{ℕ, ◌&&◌, Bool, false, Option, Some, None, List, slice_get, if◌then◌else◌}
use Rattle.vs_run_active.specs.vs_process.specs.declared.moves.Move.{Move}
use Rattle.vs_run_active.specs.vs_process.specs.declared.moves.Move.TheVariants.{Step}
use Rattle.vs_run_active.specs.vs_process.specs.Places.{Place, is_inside}

-- whether a place is one of a combinational block that has taken a step since its control
abbrev pub is_block_inside : Option Bool → Option Place → Bool
is_block_inside (Some block) (Some x) = block && is_inside x
is_block_inside _ _ = false

-- the block that has taken a step since its control, behind a move: that of the step's process alone
abbrev pub inside_by_flags : List Bool → List Place → Move → Option ℕ
inside_by_flags blocks xs (Step i) = if is_block_inside (slice_get blocks i) (slice_get xs i) then Some i else None
inside_by_flags blocks xs _ = None
