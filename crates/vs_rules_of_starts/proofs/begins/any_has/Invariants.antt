use Rattle.vs_drivers.specs.vs_slots_constants.specs.Givings.{bit_view}
use Rattle.vs_rules_of_starts.specs.Beginnings.{HasAt}
use Rattle.vs_rules_of_starts.proofs.BeginningLemmas.{NoneBelow}
use Rattle.vs_rules_of_starts.proofs.begins.any_has.Given as goal

abbrev pub invariant-loop-range : goal.invariant-loop-range
invariant-loop-range l = NoneBelow (λ r. HasAt r (bit_view l.bit)) l.named l.range-index
