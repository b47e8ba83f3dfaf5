use Rattle.std.proofs.Common.{refl}
use Rattle.vs_drivers.specs.vs_slots_constants.specs.Givings.{bit_view}
use Rattle.vs_rules_of_starts.proofs.BeginningLemmas.{gives_is}
use Rattle.vs_rules_of_starts.proofs.begins.gives_bit.Goals as goal

pub returns : goal.returns
returns c =
    gives_is c.args.design.now c.args.named.now c.args.target.now c.args.value.now (bit_view c.args.bit) (c.if-not-is_there.ensures.0 refl) (c.if-not-any_has.ensures.0 refl)
    c.in_ok-digit.digit c.in_ok-digit.ensures c.is_known_one.result c.is_known_one.ensures
