use Rattle.std.proofs.Common.{sym, ◌∙◌}
use Rattle.std.proofs.lemmas.Result.{err_from_is_err_and}
use Rattle.vs_syntax.specs.Grammar.{part, directed_ports, port_names}
use Rattle.vs_parse_expressions.specs.Answers.{seen}
use Rattle.vs_parse_expressions.proofs.Exits.{fails_by}
use Rattle.vs_parser.specs.declared.port.Said.TheVariants as s
use Rattle.vs_parser.specs.Ports.{ports_within}
use Rattle.vs_parser.proofs.PortLemmas.{told_answers, told_stuck, no_ports, names_stuck, names_answers}
use Rattle.vs_parser.proofs.port.ports.Goals as goal

pub returns-in_err-first : goal.returns-in_err-first
returns-in_err-first c =
    let p = err_from_is_err_and c.from_residual.result c.from_residual.ensures.1 in
    rw (p.1, p.2) (fails_by (part directed_ports) ports_within c.args.depth c.args.depth (seen c.args.tokens.now) (seen c.args.tokens.now)
    (λ deep at t. told_stuck c.args.depth deep c.in-Some.direction _ _ at c.in-Some.ensures t)
    c.in_err-first.field-0.0 (c.in_err-first.ensures.reads s.Nothing))

pub returns-in-Some : goal.returns-in-Some
returns-in-Some c = told_answers c.args.depth c.in-Some.direction c.args.tokens.now _ _ c.in_ok-first.first.tree _ c.in-Some.ensures (c.in_ok-first.ensures.reads s.Nothing) (rw c.after-said.ensures at c.others.ensures)

pub returns-then-not-begins_name : goal.returns-then-not-begins_name
returns-then-not-begins_name c = no_ports c.args.depth _ _ c.in_default.ensures (sym c.begins_name.ensures ∙ c.if-not-begins_name.true) c.new.ensures.items

pub returns-in_err-first-2 : goal.returns-in_err-first-2
returns-in_err-first-2 c =
    let p = err_from_is_err_and c.from_residual-in_err-first-2.result c.from_residual-in_err-first-2.ensures.1 in
    rw (p.1, p.2) (fails_by (part port_names) ports_within c.args.depth c.args.depth (seen c.args.tokens.now) (seen c.args.tokens.now)
    (λ deep at t. names_stuck c.args.depth deep _ at c.in_default.ensures (sym c.begins_name.ensures ∙ c.if-not-begins_name.false) t)
    c.in_err-first-2.field-0.0 c.in_err-first-2.ensures.reads)

pub returns : goal.returns
returns c = names_answers c.args.depth c.args.tokens.now _ c.in_ok-first-2.first.tree _ c.in_default.ensures (sym c.begins_name.ensures ∙ c.if-not-begins_name.false) c.in_ok-first-2.ensures.form c.in_ok-first-2.ensures.reads c.others-2.ensures
