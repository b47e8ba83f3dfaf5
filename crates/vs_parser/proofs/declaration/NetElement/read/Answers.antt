use Rattle.std.proofs.Common.{refl}
use Rattle.std.proofs.lemmas.Result.{err_from_is_err_and}
use Rattle.vs_syntax.specs.vs_lexer.specs.declared.token.Mark.TheVariants as m
use Rattle.vs_syntax.specs.Symbols.{a_mark, the_mark}
use Rattle.vs_syntax.specs.Grammar.{◌·◌, part, name, may_value, a_net, an_expr}
use Rattle.vs_syntax.specs.Derivation.{leaf, both}
use Rattle.vs_syntax.specs.Reading.{stuck_first, stuck_part}
use Rattle.vs_syntax.specs.Views.{name_tree, declarator_tree}
use Rattle.vs_syntax.proofs.Gets.{gets_seq, gets_part}
use Rattle.vs_parse_expressions.specs.Answers.{seen}
use Rattle.vs_parse_expressions.proofs.Exits.{fails_by}
use Rattle.vs_parse_expressions.proofs.Forms.{absent}
use Rattle.vs_parse_expressions.proofs.Parts.{beyond_part, beyond_behind}
use Rattle.vs_parser.proofs.Declarations.{beyond_present, within_beyond, part_answers}
use Rattle.vs_parser.proofs.declaration.NetElement.read.Goals as goal

pub returns-in_err-name : goal.returns-in_err-name
returns-in_err-name c =
    let p = err_from_is_err_and c.from_residual.result c.from_residual.ensures.1 in
    rw (p.1, p.2) (fails_by name (part a_net) c.args.depth c.args.depth (seen c.args.tokens.now) (seen c.args.tokens.now)
    (λ deep at s. stuck_part (stuck_first s))
    c.in_err-name.field-0.0 (c.in_err-name.ensures c.args.depth))

pub returns-in_default : goal.returns-in_default
returns-in_default c = gets_part (gets_seq (c.in_ok-name.ensures c.args.depth) (absent (the_mark m.Assign) (part an_expr) c.args.depth _ c.in_default.ensures))

pub returns : goal.returns
returns c =
    let named = beyond_part name may_value c.args.depth (seen c.args.tokens.now) (seen c.in_ok-name.after_name.now) (name_tree c.in_ok-name.name.items) (c.in_ok-name.ensures c.args.depth) in
    let assigned = beyond_present (a_mark m.Assign) (part an_expr) c.args.depth (seen c.in_ok-name.after_name.now) (seen c.in-Some.after.now) refl c.in-Some.ensures in
    part_answers a_net declarator_tree c.args.depth c.args.tokens.now _
    (within_beyond (part an_expr) (name · may_value) declarator_tree _ c.args.depth c.args.tokens.now c.in-Some.after.now _
    (beyond_behind (part an_expr) may_value (name · may_value) (both (leaf (a_mark m.Assign))) (both (name_tree c.in_ok-name.name.items)) c.args.depth _ _ _ named assigned)
    c.initialised.ensures)
