use Rattle.std.proofs.Common.{subst}
use Rattle.std.proofs.lemmas.Result.{err_from_is_err_and}
use Rattle.vs_syntax.specs.vs_lexer.specs.declared.token.Mark.TheVariants as m
use Rattle.vs_syntax.specs.Symbols.{a_mark}
use Rattle.vs_syntax.specs.Grammar.{◌·◌, ◌or◌, nothing, part, name, range, a_variable, an_expr}
use Rattle.vs_syntax.specs.Derivation.{Tree, leaf, both}
use Rattle.vs_syntax.specs.Reading.{Gets, stuck_first, stuck_second, stuck_part}
use Rattle.vs_syntax.specs.Views.{name_tree, declarator_tree}
use Rattle.vs_syntax.proofs.Gets.{gets_seq, gets_part}
use Rattle.vs_parse_expressions.specs.Answers.{seen}
use Rattle.vs_parse_expressions.proofs.Exits.{fails_by}
use Rattle.vs_parse_expressions.proofs.Parts.{beyond_part, beyond_behind}
use Rattle.vs_parser.proofs.Declarations as d
use Rattle.vs_parser.proofs.declaration.VariableElement.read.Goals as goal

pub returns-in_err-name : goal.returns-in_err-name
returns-in_err-name c =
    let p = err_from_is_err_and c.from_residual.result c.from_residual.ensures.1 in
    rw (p.1, p.2) (fails_by name (part a_variable) c.args.depth c.args.depth (seen c.args.tokens.now) (seen c.args.tokens.now)
    (λ deep at s. stuck_part (stuck_first s))
    c.in_err-name.field-0.0 (c.in_err-name.ensures c.args.depth))

pub returns-in_err-words : goal.returns-in_err-words
returns-in_err-words c =
    let p = err_from_is_err_and c.from_residual-in_err-words.result c.from_residual-in_err-words.ensures.1 in
    rw (p.1, p.2) (fails_by (range or nothing) (part a_variable) c.args.depth c.args.depth (seen c.in_ok-name.after_name.now) (seen c.args.tokens.now)
    (λ deep at s. stuck_part (stuck_second (c.in_ok-name.ensures c.args.depth) (d.range_stuck c.args.depth deep _ at c.in_default.ensures s)))
    c.in_err-words.field-0.0 c.in_err-words.ensures)

pub returns-in_default : goal.returns-in_default
returns-in_default c =
    let words =
    subst (λ (u : Tree). Gets d.declarator_rest c.args.depth (seen c.in_ok-name.after_name.now) u (seen c.in_ok-words.words.rest.now)) (d.told_range c.in_ok-words.words.tree)
    (d.no_value c.args.depth _ _ _ c.in_default.ensures c.in_ok-words.ensures) in
    gets_part (gets_seq (c.in_ok-name.ensures c.args.depth) words)

pub returns : goal.returns
returns c =
    let named = beyond_part name d.declarator_rest c.args.depth (seen c.args.tokens.now) (seen c.in_ok-name.after_name.now) (name_tree c.in_ok-name.name.items) (c.in_ok-name.ensures c.args.depth) in
    let assigned = d.value_beyond c.args.depth (seen c.in_ok-name.after_name.now) (seen c.in-Some.after.now) c.in-Some.ensures in
    d.part_answers a_variable declarator_tree c.args.depth c.args.tokens.now _
    (d.within_beyond (part an_expr) (name · d.declarator_rest) declarator_tree _ c.args.depth c.args.tokens.now c.in-Some.after.now _
    (beyond_behind (part an_expr) d.declarator_rest (name · d.declarator_rest) (both (leaf (a_mark m.Assign))) (both (name_tree c.in_ok-name.name.items)) c.args.depth _ _ _ named assigned)
    c.initialised.ensures)
