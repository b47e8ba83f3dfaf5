use Rattle.std.proofs.lemmas.Result.{err_from_is_err_and}
use Rattle.vs_widths.specs.select_passes.Measures.{meaning}
use Rattle.vs_widths.proofs.MeasuringLemmas.{count_refused, repeats}
use Rattle.vs_widths.proofs.measuring.counted.Goals as goal

pub returns-in_err-times : goal.returns-in_err-times
returns-in_err-times c =
    let p = err_from_is_err_and c.from_residual.result c.from_residual.ensures.1 in
    rw (p.1, p.2) (λ first rest h. count_refused (meaning c.args.count) first rest c.in_err-times.field-0.0 c.in_err-times.ensures)

pub returns : goal.returns
returns c = λ first rest h. repeats c.args.count c.in_ok-times.times first rest c.args.parts c.repeated.result c.in_ok-times.ensures h c.repeated.ensures
