use Rattle.std.proofs.Common.{◌≡◌, true, take}
use Rattle.std.specs.List.{list_all}
use Rattle.vs_widths.specs.Lefts.{is_left}
use Rattle.vs_widths.proofs.lefts.+is_left.Given as goal

abbrev pub invariant-are_left-loop-e : goal.invariant-are_left-loop-e
invariant-are_left-loop-e l = list_all is_left (take l.e-index l.es) ≡ true
