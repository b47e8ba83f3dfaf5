use Rattle.std.proofs.Common.{◌∷◌}
use Rattle.vs_prep_macros.specs.Pieces.{cut_by}
use Rattle.vs_prep_macros.proofs.Suffixes.{cut_behind, behind_splits, behind_one}
use Rattle.vs_prep_macros.proofs.laws.front_and_rest.Goals as goal

pub returns : goal.returns
returns c = λ first after. behind_splits (cut_by first after).1 (first ∷ after) (behind_one first (cut_by first after).1 after (cut_behind first after))
