use Rattle.std.proofs.Common.{◌≤◌, arith}
use Rattle.std.proofs.lemmas.Result.{err_from_is_err_and}
use Rattle.vs_syntax.specs.Grammar.{many, local_declaration}
use Rattle.vs_syntax.specs.Views.{local_declaration_tree}
use Rattle.vs_syntax.specs.Reading.{stuck_many}
use Rattle.vs_syntax.proofs.Gets.{gets_stop}
use Rattle.vs_parse_expressions.specs.Answers.{seen}
use Rattle.vs_parse_expressions.proofs.Exits.{fails_by}
use Rattle.vs_parse_expressions.proofs.Rows.{along_start, along_push, shorter, all_read}
use Rattle.vs_parse_expressions.proofs.Blocks.{local_goes}
use Rattle.vs_parse_expressions.proofs.local.locals.Goals as goal

pub loop-word-init : goal.loop-word-init
loop-word-init c = record {
  along = along_start local_declaration c.args.depth c.args.tokens.now _ local_declaration_tree _ c.split_at.ensures.back c.new-tree.ensures.items;
}

pub returns-in_err-declaration : goal.returns-in_err-declaration
returns-in_err-declaration c =
    let p = err_from_is_err_and c.from_residual.result c.from_residual.ensures.1 in
    let none : 0 ≤ c.args.depth = omega arith in
    rw (p.1, p.2) (fails_by local_declaration (many local_declaration) c.args.depth c.args.depth (seen c.loop-word.rest.now) (seen c.args.tokens.now)
    (λ deep at s. c.loop-word.invariant.along.stops deep at (stuck_many (local_goes _ _ _ c.in-Some.ensures) none s))
    c.in_err-declaration.field-0.0 c.in_err-declaration.ensures)

pub loop-word-smaller : goal.loop-word-smaller
loop-word-smaller c = shorter local_declaration c.args.depth _ _ _ (local_goes _ _ _ c.in-Some.ensures) c.in_ok-declaration.ensures

pub loop-word-preserved : goal.loop-word-preserved
loop-word-preserved c = record {
  along = along_push local_declaration c.args.depth _ _ _ local_declaration_tree _ _ _ c.in_ok-push.ensures.items c.loop-word.invariant.along (local_goes _ _ _ c.in-Some.ensures) c.in_ok-declaration.ensures;
}

pub returns : goal.returns
returns c = all_read local_declaration c.args.depth _ _ _ _ c.loop-word.invariant.along (gets_stop c.in_default.ensures)
