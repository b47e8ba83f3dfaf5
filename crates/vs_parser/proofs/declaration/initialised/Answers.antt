use Rattle.std.proofs.lemmas.Result.{err_from_is_err_and}
use Rattle.vs_syntax.specs.Views.{expr_tree}
use Rattle.std.proofs.Common.{refl}
use Rattle.vs_parser.proofs.declaration.initialised.Goals as goal

pub returns-in_err-value : goal.returns-in_err-value
returns-in_err-value c =
    let p = err_from_is_err_and c.from_residual.result c.from_residual.ensures.1 in
    rw (p.1, p.2) c.in_err-value.ensures

pub returns : goal.returns
returns c = record { inner = expr_tree c.in_ok-value.value.tree; whole = refl; gets = c.in_ok-value.ensures }
