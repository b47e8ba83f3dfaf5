use Rattle.std.proofs.Common.{ℕ, ◌≡◌, ◌<◌, Some, slice_get}
use Rattle.vs_graph.specs.Sorting.{IsPlaced}
use Rattle.vs_graph.proofs.sorting.are_placed.Given as goal

abbrev pub invariant-loop-y : goal.invariant-loop-y
invariant-loop-y l = (k y : ℕ) → k < l.y-index → slice_get l.needed k ≡ Some y → IsPlaced l.placed y
