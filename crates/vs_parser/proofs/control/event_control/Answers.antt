use Rattle.std.proofs.Common.{refl}
use Rattle.std.proofs.lemmas.Result.{err_from_is_err_and}
use Rattle.vs_syntax.specs.Grammar.{name, event}
use Rattle.vs_syntax.specs.Reading.{stuck_here}
use Rattle.vs_parse_expressions.specs.Answers.{seen}
use Rattle.vs_parse_expressions.proofs.Exits.{fails_by}
use Rattle.vs_parser.proofs.Controls.{event_of, event_star, event_name_stuck, event_name_read, event_group}
use Rattle.vs_parser.proofs.control.event_control.Goals as goal

pub returns-in_default : goal.returns-in_default
returns-in_default c = stuck_here refl c.in_default.ensures

pub returns-in-Star : goal.returns-in-Star
returns-in-Star c = event_star c.args.depth _ _ (event_of _ _ _ _ c.in-Star.is c.in-Some.ensures)

pub returns-in_err-name-in-Name : goal.returns-in_err-name-in-Name
returns-in_err-name-in-Name c =
    let p = err_from_is_err_and c.from_residual.result c.from_residual.ensures.1 in
    rw (p.1, p.2) (fails_by (name) (event) c.args.depth c.args.depth (seen c.args.tokens.now) (seen c.args.tokens.now)
    (λ deep at s. event_name_stuck c.args.depth deep _ at (event_of _ _ _ _ c.in-Name.is c.in-Some.ensures) s)
    c.in_err-name-in-Name.field-0.0 (c.in_err-name-in-Name.ensures c.args.depth))

pub returns-in_ok-name-in-Name : goal.returns-in_ok-name-in-Name
returns-in_ok-name-in-Name c = event_name_read c.args.depth _ _ _ (event_of _ _ _ _ c.in-Name.is c.in-Some.ensures) (c.in_ok-name-in-Name.ensures c.args.depth)

pub returns-in-Open : goal.returns-in-Open
returns-in-Open c = event_group c.args.depth _ _ _ (event_of _ _ _ _ c.in-Open.is c.in-Some.ensures) c.event_group.ensures
