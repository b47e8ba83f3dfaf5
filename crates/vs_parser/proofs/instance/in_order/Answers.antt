use Rattle.std.proofs.lemmas.Result.{err_from_is_err_and}
use Rattle.vs_syntax.specs.Grammar.{an_end}
use Rattle.vs_syntax.specs.Reading.{stuck_first, stuck_second}
use Rattle.vs_syntax.specs.Views.{end_tree}
use Rattle.vs_syntax.proofs.Gets.{gets_seq}
use Rattle.vs_parse_expressions.specs.Answers.{seen}
use Rattle.vs_parse_expressions.proofs.Exits.{fails_by}
use Rattle.vs_parse_expressions.specs.Lists.{comma_tail}
use Rattle.vs_parser.proofs.InstanceLemmas.{ordered}
use Rattle.vs_parse_expressions.proofs.ListsLists.{grown_none}
use Rattle.vs_parser.proofs.instance.in_order.Goals as goal

pub returns-in_err-first : goal.returns-in_err-first
returns-in_err-first c =
    let p = err_from_is_err_and c.from_residual.result c.from_residual.ensures.1 in
    rw (p.1, p.2) (fails_by an_end ordered c.args.depth c.args.depth (seen c.args.tokens.now) (seen c.args.tokens.now)
    (λ deep at s. stuck_first s)
    c.in_err-first.field-0.0 c.in_err-first.ensures)

pub returns-in_err-behind : goal.returns-in_err-behind
returns-in_err-behind c =
    let p = err_from_is_err_and c.from_residual-in_err-behind.result c.from_residual-in_err-behind.ensures.1 in
    rw (p.1, p.2) (fails_by (comma_tail an_end) ordered c.args.depth c.args.depth (seen c.in_ok-first.first.rest.now) (seen c.args.tokens.now)
    (λ deep at s. stuck_second c.in_ok-first.ensures s)
    c.in_err-behind.field-0.0 c.in_err-behind.ensures)

pub returns : goal.returns
returns c = gets_seq c.in_ok-first.ensures (grown_none an_end c.args.depth end_tree _ _ _ _ c.in_ok-behind.ensures c.new.ensures.items)
