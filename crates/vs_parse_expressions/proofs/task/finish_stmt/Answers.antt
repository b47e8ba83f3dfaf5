use Rattle.std.proofs.Common.{refl, false, None, Some}
use Rattle.std.proofs.lemmas.Result.{err_from_is_err_and}
use Rattle.vs_syntax.specs.vs_lexer.specs.declared.token.Mark.TheVariants as m
use Rattle.vs_syntax.specs.Grammar.{◌·◌, mark, number, finish_argument}
use Rattle.vs_syntax.specs.Reading.{stuck_here, stuck_first, stuck_second}
use Rattle.vs_parse_expressions.specs.Answers.{seen}
use Rattle.vs_parse_expressions.proofs.Exits.{fails_by}
use Rattle.vs_syntax.specs.Symbols.{any_number}
use Rattle.vs_parse_expressions.proofs.Tokens.{none_at, other_at, read_number}
use Rattle.vs_parse_expressions.specs.Tasks.{counted}
use Rattle.vs_parse_expressions.proofs.Tasks.{no_count, finish_within, count_stuck, count_read}
use Rattle.vs_parse_expressions.proofs.task.finish_stmt.Goals as goal

pub returns-in_default : goal.returns-in_default
returns-in_default c = λ depth. finish_within depth _ _ None _ (no_count depth _ c.in_default.ensures) (c.finished.ensures depth)

pub returns-in_default-next : goal.returns-in_default-next
returns-in_default-next c = λ depth. stuck_first (count_stuck depth _ _ _ _ c.in-Some.ensures (stuck_first (stuck_here refl (none_at _ number _ c.in_default-next.ensures refl))))

pub returns-in_default-literal : goal.returns-in_default-literal
returns-in_default-literal c = λ depth. stuck_first (count_stuck depth _ _ _ _ c.in-Some.ensures (stuck_first (stuck_here refl (other_at any_number _ c.in-Some-next.first.now _ c.in-Some-next.ensures (c.in_default-literal.ensures c.in-Some-next.first.now.bytes.now)))))

pub returns-in_err-rest : goal.returns-in_err-rest
returns-in_err-rest c = λ depth.
    let p = err_from_is_err_and c.from_residual.result c.from_residual.ensures.1 in
    rw (p.1, p.2) (fails_by (mark m.Close) (finish_argument · mark m.Semicolon) depth depth (seen c.in-Some-next.after.now) (seen c.args.tokens.now)
    (λ deep at s. stuck_first (count_stuck depth deep _ _ at c.in-Some.ensures (stuck_second (read_number depth _ c.in-Some-next.first.now _ c.in-Some-literal.found c.in-Some-next.ensures c.in-Some-literal.ensures) s)))
    c.in_err-rest.field-0.0 (c.in_err-rest.ensures depth))

pub returns : goal.returns
returns c = λ depth. finish_within depth _ _ (Some c.in-Some-literal.found) _ (count_read depth _ _ _ _ _ c.in-Some.ensures (read_number depth _ c.in-Some-next.first.now _ c.in-Some-literal.found c.in-Some-next.ensures c.in-Some-literal.ensures) (c.in_ok-rest.ensures depth)) (c.finished-2.ensures depth)
