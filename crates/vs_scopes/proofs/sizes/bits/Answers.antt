use Rattle.std.proofs.Common.{Some}
use Rattle.std.proofs.lemmas.Result.{err_from_is_err_and}
use Rattle.vs_scopes.specs.vs_widths.specs.Names.{meaning_of}
use Rattle.vs_scopes.specs.Ranges.{bounds_fault, range_fault}
use Rattle.vs_scopes.proofs.SizeLemmas.{width_refused}
use Rattle.std.proofs.lemmas.Bool.{or_left as left_true}
use Rattle.vs_scopes.proofs.sizes.bits.Goals as goal

pub returns-in_err-bounds : goal.returns-in_err-bounds
returns-in_err-bounds c =
    let q = err_from_is_err_and c.from_residual.result c.from_residual.ensures.1 in
    let env = meaning_of c.args.names.now in
    let r = c.args.range.now in
    rw (q.1, q.2) (width_refused (λ w. bounds_fault w env r) (λ w. range_fault w env (Some r)) c.in_err-bounds.field-0.0 (λ w h. left_true _ _ h) c.in_err-bounds.ensures)
