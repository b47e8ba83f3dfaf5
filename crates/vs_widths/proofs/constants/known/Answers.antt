use Rattle.std.proofs.Common.{sym, ◌∙◌}
use Rattle.vs_widths.proofs.ConstantLemmas.{is_known, not_known}
use Rattle.vs_widths.proofs.constants.known.Goals as goal

pub returns-then-is_constant : goal.returns-then-is_constant
returns-then-is_constant c =
    is_known c.args.form.now c.args.shape c.in_ok-y.y _ c.requires c.in_ok-y.ensures (sym c.in_ok-is_constant.ensures ∙ c.if-is_constant.true) c.reads_hold.ensures c.sizes_hold.ensures c.value_alone.ensures

pub returns : goal.returns
returns c = not_known c.args.form.now c.args.shape c.in_ok-y.y c.in_ok-y.ensures (sym c.in_ok-is_constant.ensures ∙ c.if-is_constant.false)
