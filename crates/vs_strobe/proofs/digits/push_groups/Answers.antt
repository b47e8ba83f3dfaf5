use Rattle.std.proofs.Common.{◌-◌, ap, ◌∙◌, arith}
use Rattle.vs_strobe.specs.Values.{group_character}
use Rattle.vs_strobe.proofs.ValueLemmas.{groups_more, group_within}
use Rattle.vs_strobe.proofs.digits.push_groups.Goals as goal

pub group-requires : goal.group-requires
group-requires c = record {
  some = c.requires.some;
  within = group_within _ _ _ c.requires.some (omega (arith, c.loop-left.invariant.most));
}

pub loop-left-preserved : goal.loop-left-preserved
loop-left-preserved c = record {
  most = omega arith;
  written = groups_more group_character c.args.size _ _ _ c.args.value c.loop-left.left (c.loop-left.left - 1) c.group_character.result (omega arith) (c.group_character.ensures ∙ ap group_character c.group.ensures.is) c.in_ok-push.ensures.items c.loop-left.invariant.written;
}
