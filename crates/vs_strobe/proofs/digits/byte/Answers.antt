use Rattle.std.proofs.Common.{◌-◌, arith}
use Rattle.vs_strobe.proofs.ValueLemmas.{number_from_step, number_from_below}
use Rattle.vs_strobe.proofs.digits.byte.Goals as goal

pub overflow_mul-byte : goal.overflow_mul-byte
overflow_mul-byte c = omega (arith, number_from_below c.args.value c.loop-i.i (c.loop-i.i - 1) (omega arith) c.requires, c.loop-i.invariant)

pub overflow_add-byte : goal.overflow_add-byte
overflow_add-byte c = omega (arith, number_from_below c.args.value c.loop-i.i (c.loop-i.i - 1) (omega arith) c.requires, c.loop-i.invariant)

pub loop-i-preserved : goal.loop-i-preserved
loop-i-preserved c =
    number_from_step c.args.value c.loop-i.i (c.loop-i.i - 1) _ _ _ (omega arith) c.digit.ensures c.loop-i.invariant c.bit.ensures.is
