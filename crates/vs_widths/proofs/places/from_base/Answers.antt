use Rattle.std.proofs.Common.{refl}
use Rattle.std.proofs.lemmas.Result.{err_from_is_err_and}
use Rattle.vs_widths.proofs.PlaceLemmas.{count_refused, count_too_wide, base_extent}
use Rattle.vs_widths.proofs.places.from_base.Goals as goal

pub returns-in_err-count : goal.returns-in_err-count
returns-in_err-count c =
    let p = err_from_is_err_and c.from_residual.result c.from_residual.ensures.1 in
    rw (p.1, p.2) (count_refused c.args.base c.args.width _ c.in_err-count.ensures)

pub returns-then-count-gt64 : goal.returns-then-count-gt64
returns-then-count-gt64 c = count_too_wide c.args.base c.args.width c.in_ok-count.count c.in_ok-count.ensures c.if-count-gt64.true

pub returns : goal.returns
returns c =
    base_extent c.args.how c.args.bounds c.args.size c.args.base c.args.width c.in_ok-count.count _ c.axis.result c.in_ok-count.ensures c.if-count-gt64.false refl refl (rw c.below_base.ensures at c.axis.ensures.is) c.axis.ensures.sign c.requires.base
