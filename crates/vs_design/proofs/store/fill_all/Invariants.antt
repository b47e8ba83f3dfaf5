use Rattle.std.proofs.Common.{◌≡◌, drop}
use Rattle.vs_design.specs.Drivers.{all_driven}
use Rattle.vs_design.proofs.store.fill_all.Given as goal

abbrev pub invariant-loop-assign : goal.invariant-loop-assign
invariant-loop-assign l = all_driven (drop l.assign-index l.assigns) l.words.items ≡ all_driven l.assigns l.fn.words.items
