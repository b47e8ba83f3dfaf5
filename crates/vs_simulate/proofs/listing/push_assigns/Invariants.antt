use Rattle.std.proofs.Common.{◌≡◌, ◌++◌, drop}
use Rattle.std.specs.List.{flat_map}
use Rattle.vs_simulate.specs.Listing.{assign_line}
use Rattle.vs_simulate.proofs.listing.push_assigns.Given as goal

abbrev pub invariant-loop-assign : goal.invariant-loop-assign
invariant-loop-assign l = l.text.items ++ flat_map assign_line (drop l.assign-index l.assigns) ≡ l.fn.text.items ++ flat_map assign_line l.assigns
