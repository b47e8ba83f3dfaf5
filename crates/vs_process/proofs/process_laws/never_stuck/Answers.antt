use Rattle.std.proofs.Common.{refl}
use Rattle.vs_process.specs.declared.moves.Grain.TheVariants.{Statement, Block}
use Rattle.vs_process.specs.Executions.{after}
use Rattle.vs_process.specs.Permitted.{NeverStuck}
use Rattle.vs_process.proofs.Blocks.{block_goes, one_inside}
use Rattle.vs_process.proofs.Permitted.{state_goes}
use Rattle.vs_process.proofs.process_laws.never_stuck.Goals as goal

never : NeverStuck
never Statement d moves legal goes_on = state_goes Statement d (after d moves) (λ m. refl) goes_on
never Block d moves legal goes_on = block_goes d (after d moves) (one_inside d moves legal) (state_goes Block d (after d moves)) goes_on

pub returns : goal.returns
returns c = never
