use Rattle.std.proofs.Common.{refl, sym, ◌∙◌}
use Rattle.std.proofs.lemmas.Bool.{eqb-false}
use borrow.Author.Tests.{eqb-true}
use Rattle.std.proofs.lemmas.Result.{err_from_is_err_and}
use Rattle.vs_lexer.proofs.Spelled.{all_read, limit_reached, limit_passed, piece_refused, piece_taken}
use Rattle.vs_lexer.proofs.lexing.lex.Goals as goal

pub returns-then-place-ge-SOURCE_LIMIT : goal.returns-then-place-ge-SOURCE_LIMIT
returns-then-place-ge-SOURCE_LIMIT c = limit_reached _ _ _ c.loop-rest.invariant c.if-place-ge-SOURCE_LIMIT.true (eqb-false _ _ (sym c.is_empty.ensures ∙ c.loop-rest-test.true))

pub returns-in_err-rest : goal.returns-in_err-rest
returns-in_err-rest c =
    let p = err_from_is_err_and c.from_residual.result c.from_residual.ensures.1 in
    rw (p.1, p.2) (piece_refused _ _ _ c.loop-rest.invariant _ _ refl c.if-place-ge-SOURCE_LIMIT.false c.in_err-rest.ensures)

pub loop-rest-preserved : goal.loop-rest-preserved
loop-rest-preserved c = piece_taken _ _ _ _ _ _ c.loop-rest.invariant refl c.in_ok-rest.ensures

pub returns-then-source-gt-SOURCE_LIMIT : goal.returns-then-source-gt-SOURCE_LIMIT
returns-then-source-gt-SOURCE_LIMIT c = limit_passed _ _ _ c.loop-rest.invariant (eqb-true _ _ (sym c.is_empty.ensures ∙ c.loop-rest-test.false)) c.if-source-gt-SOURCE_LIMIT.true

pub returns : goal.returns
returns c = all_read _ _ _ c.loop-rest.invariant (eqb-true _ _ (sym c.is_empty.ensures ∙ c.loop-rest-test.false)) c.if-source-gt-SOURCE_LIMIT.false
