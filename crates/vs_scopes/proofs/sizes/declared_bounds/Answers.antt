use Rattle.std.proofs.Common.{rules}
use Rattle.std.proofs.lemmas.Result.{err_from_is_err_and}
use Rattle.vs_scopes.specs.vs_widths.specs.Names.{meaning_of}
use Rattle.vs_scopes.specs.declared.faults.Reason.TheVariants.{Width}
use Rattle.vs_scopes.specs.Ranges.{bound_fault, bounds_fault}
use Rattle.vs_scopes.proofs.SizeLemmas.{no_faults, width_refused}
use Rattle.std.proofs.lemmas.Bool.{or_from as both_false, or_left as left_true, or_right as right_true}
use Rattle.vs_scopes.proofs.sizes.declared_bounds.Goals as goal

pub returns-in_err-left : goal.returns-in_err-left
returns-in_err-left c =
    let q = err_from_is_err_and c.from_residual.result c.from_residual.ensures.1 in
    let env = meaning_of c.args.names.now in
    let r = c.args.range.now in
    rw (q.1, q.2) (width_refused (λ w. bound_fault w env r.left) (λ w. bounds_fault w env r) c.in_err-left.field-0.0 (λ w h. left_true _ _ h) c.in_err-left.ensures)

pub returns-in_err-right : goal.returns-in_err-right
returns-in_err-right c =
    let q = err_from_is_err_and c.from_residual-in_err-right.result c.from_residual-in_err-right.ensures.1 in
    let env = meaning_of c.args.names.now in
    let r = c.args.range.now in
    rw (q.1, q.2) (width_refused (λ w. bound_fault w env r.right) (λ w. bounds_fault w env r) c.in_err-right.field-0.0 (λ w h. right_true _ _ h) c.in_err-right.ensures)

pub returns : goal.returns
returns c =
    let env = meaning_of c.args.names.now in
    let r = c.args.range.now in
    (no_faults (λ w. bounds_fault w env r) (λ w. both_false _ _ (c.in_ok-left.ensures.0 (Width w)) (c.in_ok-right.ensures.0 (Width w))), rw (c.in_ok-left.ensures.1, c.in_ok-right.ensures.1) (search rules))
