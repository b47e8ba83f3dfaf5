use Rattle.std.proofs.Common.{◌≡◌, true, take}
use Rattle.std.specs.List.{list_all}
use Rattle.vs_rules_of_starts.specs.Settled.{is_idle}
use Rattle.vs_rules_of_starts.proofs.settled.are_idle.Given as goal

abbrev pub invariant-loop-assign : goal.invariant-loop-assign
invariant-loop-assign l = list_all (is_idle l.store) (take l.assign-index l.assigns) ≡ true
