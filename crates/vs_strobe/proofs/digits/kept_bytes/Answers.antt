use Rattle.std.proofs.Common.{◌-◌, sym, ap, ◌∙◌, arith}
use Rattle.vs_design.specs.vs_logic4.specs.Arithmetic.{number}
use Rattle.vs_strobe.proofs.ValueLemmas.{bytes_less, bytes_kept, group_within}
use Rattle.vs_strobe.proofs.digits.kept_bytes.Goals as goal

pub group-requires : goal.group-requires
group-requires c = record {
  some = omega arith;
  within = group_within 8 _ _ (omega arith) (omega (arith, c.loop-kept.invariant.most));
}

pub returns-then-byte-ne0-clause-kept : goal.returns-then-byte-ne0-clause-kept
returns-then-byte-ne0-clause-kept c =
    sym (bytes_kept 8 c.args.value c.loop-kept.kept (c.loop-kept.kept - 1) c.byte.result (omega arith) (c.byte.ensures ∙ ap number c.group.ensures.is) c.if-byte-ne0.true) ∙ c.loop-kept.invariant.same

pub loop-kept-preserved : goal.loop-kept-preserved
loop-kept-preserved c = record {
  most = omega arith;
  same = sym (bytes_less 8 c.args.value c.loop-kept.kept (c.loop-kept.kept - 1) c.byte.result (omega arith) (c.byte.ensures ∙ ap number c.group.ensures.is) (omega arith)) ∙ c.loop-kept.invariant.same;
}
