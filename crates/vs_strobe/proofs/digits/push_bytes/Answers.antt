use Rattle.std.proofs.Common.{◌-◌, ap, ◌∙◌, arith}
use Rattle.vs_design.specs.vs_logic4.specs.Arithmetic.{number}
use Rattle.vs_strobe.proofs.ValueLemmas.{groups_more, group_within}
use Rattle.vs_strobe.proofs.digits.push_bytes.Goals as goal

pub group-requires : goal.group-requires
group-requires c = record {
  some = omega arith;
  within = group_within 8 _ _ (omega arith) (omega (arith, c.loop-left.invariant.most));
}

pub loop-left-preserved : goal.loop-left-preserved
loop-left-preserved c = record {
  most = omega arith;
  written = groups_more number 8 _ _ _ c.args.value c.loop-left.left (c.loop-left.left - 1) c.byte.result (omega arith) (c.byte.ensures ∙ ap number c.group.ensures.is) c.in_ok-push.ensures.items c.loop-left.invariant.written;
}
