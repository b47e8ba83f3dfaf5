use Rattle.std.proofs.Common.{◌-◌, sym, ap, ◌∙◌, arith}
use Rattle.vs_strobe.specs.Values.{group_character}
use Rattle.vs_strobe.proofs.ValueLemmas.{zeros_less, zeros_kept, group_within}
use Rattle.vs_strobe.proofs.digits.kept_groups.Goals as goal

pub group-requires : goal.group-requires
group-requires c = record {
  some = c.requires.some;
  within = group_within _ _ _ c.requires.some (omega (arith, c.loop-kept.invariant.most));
}

pub returns-then-group_character-ne48-clause-kept : goal.returns-then-group_character-ne48-clause-kept
returns-then-group_character-ne48-clause-kept c =
    sym (zeros_kept group_character c.args.size c.args.value c.loop-kept.kept (c.loop-kept.kept - 1) c.group_character.result (omega arith) (omega arith) (c.group_character.ensures ∙ ap group_character c.group.ensures.is) c.if-group_character-ne48.true) ∙ c.loop-kept.invariant.same

pub loop-kept-preserved : goal.loop-kept-preserved
loop-kept-preserved c = record {
  most = omega arith;
  same = sym (zeros_less group_character c.args.size c.args.value c.loop-kept.kept (c.loop-kept.kept - 1) c.group_character.result (omega arith) (omega arith) (c.group_character.ensures ∙ ap group_character c.group.ensures.is) (omega arith)) ∙ c.loop-kept.invariant.same;
}
