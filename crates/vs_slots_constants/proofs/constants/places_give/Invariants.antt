use Rattle.std.proofs.Common.{◌≡◌, ◌≤◌, drop}
use Rattle.vs_rules.specs.Constants.{places_give}
use Rattle.vs_slots_constants.specs.Givings.{bit_view}
use Rattle.vs_slots_constants.proofs.constants.places_give.Given as goal

abbrev pub invariant-loop-i : goal.invariant-loop-i
invariant-loop-i l = record {
  within : l.from ≤ 64;
  same : places_give l.from (drop l.i l.aims) l.digits (bit_view l.bit) ≡ places_give 0 l.aims l.digits (bit_view l.bit);
}
