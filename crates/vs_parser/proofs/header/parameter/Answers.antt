use Rattle.std.proofs.Common.{refl}
use Rattle.std.proofs.lemmas.Result.{err_from_is_err_and}
use Rattle.vs_syntax.specs.Views.{constant_tree}
use Rattle.vs_parser.proofs.header.parameter.Goals as goal

pub returns-in_err-constant : goal.returns-in_err-constant
returns-in_err-constant c =
    let p = err_from_is_err_and c.from_residual.result c.from_residual.ensures.1 in
    rw (p.1, p.2) c.in_err-constant.ensures

pub returns : goal.returns
returns c = record { inner = constant_tree c.in_ok-constant.constant.tree; whole = refl; gets = c.in_ok-constant.ensures }
