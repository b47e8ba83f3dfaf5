use Rattle.std.proofs.Common.{refl}
use Rattle.std.proofs.lemmas.Result.{err_from_is_err_and}
use Rattle.std.specs.Prelude.{map}
use Rattle.std.specs.declared.vec.Vec.{Vec}
use Rattle.std.specs.declared.alloc.Global.{Global}
use Rattle.vs_syntax.specs.vs_lexer.specs.declared.token.Mark.TheVariants as m
use Rattle.vs_syntax.specs.Symbols.{a_mark}
use Rattle.vs_syntax.specs.Grammar.{◌or◌, nothing, mark, header_parameters}
use Rattle.vs_syntax.specs.Reading.{stuck_first}
use Rattle.vs_syntax.specs.Views.{header_parameter_tree, header_parameters_tree}
use Rattle.vs_syntax.specs.declared.tree.HeaderParameter.{HeaderParameter}
use Rattle.vs_parse_expressions.specs.Answers.{seen}
use Rattle.vs_parse_expressions.proofs.Exits.{fails_by}
use Rattle.vs_parse_expressions.proofs.Forms.{present_stuck}
use Rattle.vs_parser.proofs.Declarations.{within_beyond}
use Rattle.vs_parser.proofs.Headers as h
use Rattle.vs_parser.proofs.header.header_parameters.Goals as goal

pub returns-in_default : goal.returns-in_default
returns-in_default c = h.no_parameters c.args.depth _ _ c.in_default.ensures c.new.ensures.items

pub returns-in_err-inside : goal.returns-in_err-inside
returns-in_err-inside c =
    let p = err_from_is_err_and c.from_residual.result c.from_residual.ensures.1 in
    rw (p.1, p.2) (fails_by (mark m.Open) (header_parameters or nothing) c.args.depth c.args.depth (seen c.in-Some.after.now) (seen c.args.tokens.now)
    (λ deep at s. present_stuck (a_mark m.Hash) h.parameters_within c.args.depth deep _ _ at refl c.in-Some.ensures (stuck_first s))
    c.in_err-inside.field-0.0 (c.in_err-inside.ensures c.args.depth))

pub returns : goal.returns
returns c =
    within_beyond h.parameters_inside (header_parameters or nothing) (λ (xs : Vec HeaderParameter Global). header_parameters_tree (map header_parameter_tree xs.items)) _ c.args.depth c.args.tokens.now c.in_ok-inside.inside.now _
    (h.inside_beyond c.args.depth _ _ _ c.in-Some.ensures (c.in_ok-inside.ensures c.args.depth)) c.parameters_within.ensures
