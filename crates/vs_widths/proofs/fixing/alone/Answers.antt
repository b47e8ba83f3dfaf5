use Rattle.std.proofs.Common.{sym, ◌∙◌}
use Rattle.vs_widths.proofs.ConstantLemmas.{stands_alone}
use Rattle.vs_widths.proofs.fixing.alone.Goals as goal

pub returns-then-is_constant : goal.returns-then-is_constant
returns-then-is_constant c =
    stands_alone c.args.x.now c.in_ok-y.y _ c.in_ok-y.ensures (sym c.in_ok-is_constant.ensures ∙ c.if-is_constant.true) c.reads_hold.ensures c.value_alone.ensures
