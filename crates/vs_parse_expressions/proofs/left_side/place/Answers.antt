use Rattle.std.proofs.Common.{◌<◌, ◌-◌, refl, arith}
use Rattle.std.proofs.lemmas.Result.{err_from_is_err_and}
use Rattle.vs_syntax.specs.Symbols.{any_name}
use Rattle.vs_syntax.specs.Grammar.{part, name, many, select, a_target}
use Rattle.vs_syntax.specs.Reading.{stuck_first, stuck_second}
use Rattle.vs_syntax.proofs.Gets.{gets_seq}
use Rattle.vs_parse_expressions.specs.Answers.{seen}
use Rattle.vs_parse_expressions.proofs.Exits.{deep_at, fails_by}
use Rattle.vs_parse_expressions.proofs.Lefts.{place_stuck, place_read, tree_Place}
use Rattle.vs_parse_expressions.proofs.left_side.place.Goals as goal

pub returns-then-depth-eq0 : goal.returns-then-depth-eq0
returns-then-depth-eq0 c = deep_at a_target c.args.depth _ any_name c.requires refl (omega arith)

pub returns-in_err-name : goal.returns-in_err-name
returns-in_err-name c =
    let p = err_from_is_err_and c.from_residual.result c.from_residual.ensures.1 in
    let h : 0 < c.args.depth = omega arith in
    rw (p.1, p.2) (fails_by name (part a_target) (c.args.depth - 1) c.args.depth (seen c.args.tokens.now) (seen c.args.tokens.now)
    (λ deep at s. place_stuck c.args.depth deep _ at h c.requires (stuck_first s))
    c.in_err-name.field-0.0 (c.in_err-name.ensures (c.args.depth - 1)))

pub returns-in_err-read : goal.returns-in_err-read
returns-in_err-read c =
    let p = err_from_is_err_and c.from_residual-in_err-read.result c.from_residual-in_err-read.ensures.1 in
    let h : 0 < c.args.depth = omega arith in
    rw (p.1, p.2) (fails_by (many select) (part a_target) (c.args.depth - 1) c.args.depth (seen c.in_ok-name.after_name.now) (seen c.args.tokens.now)
    (λ deep at s. place_stuck c.args.depth deep _ at h c.requires (stuck_second (c.in_ok-name.ensures (c.args.depth - 1)) s))
    c.in_err-read.field-0.0 c.in_err-read.ensures)

pub returns : goal.returns
returns c =
    let h : 0 < c.args.depth = omega arith in
    rw tree_Place (place_read c.args.depth _ _ _ h c.requires (gets_seq (c.in_ok-name.ensures (c.args.depth - 1)) c.in_ok-read.ensures.0))
