use Rattle.std.proofs.lemmas.Result.{err_from_is_err_and}
use Rattle.std.specs.Prelude.{map}
use Rattle.std.specs.declared.vec.Vec.{Vec}
use Rattle.std.specs.declared.alloc.Global.{Global}
use Rattle.vs_syntax.specs.vs_lexer.specs.declared.token.Mark.TheVariants as m
use Rattle.vs_syntax.specs.Symbols.{a_mark}
use Rattle.vs_syntax.specs.Grammar.{part, mark, a_header_parameter}
use Rattle.vs_syntax.specs.Derivation.{leaf, both}
use Rattle.vs_syntax.specs.Reading.{stuck_first, stuck_second}
use Rattle.vs_syntax.specs.Views.{header_parameter_tree, header_parameters_tree}
use Rattle.vs_syntax.specs.declared.tree.HeaderParameter.{HeaderParameter}
use Rattle.vs_parse_expressions.specs.Answers.{seen}
use Rattle.vs_parse_expressions.proofs.Exits.{fails_by}
use Rattle.vs_parse_expressions.specs.Lists.{comma_tail}
use Rattle.vs_parse_expressions.specs.Parts.{ReadsWithin}
use Rattle.vs_parse_expressions.proofs.Parts.{ended_as}
use Rattle.vs_parser.proofs.Headers as h
use Rattle.vs_parser.proofs.header.parameters_within.Goals as goal

pub returns-in_err-first : goal.returns-in_err-first
returns-in_err-first c =
    let p = err_from_is_err_and c.from_residual.result c.from_residual.ensures.1 in
    rw (p.1, p.2) (fails_by h.first_parameter h.parameters_inside c.args.depth c.args.depth (seen c.args.inside.now) (seen c.args.inside.now)
    (λ deep at s. stuck_first s)
    c.in_err-first.field-0.0 c.in_err-first.ensures)

pub returns-in_err-all : goal.returns-in_err-all
returns-in_err-all c =
    let p = err_from_is_err_and c.from_residual-in_err-all.result c.from_residual-in_err-all.ensures.1 in
    rw (p.1, p.2) (fails_by (comma_tail (part a_header_parameter)) h.parameters_inside c.args.depth c.args.depth (seen c.in_ok-first.first.rest.now) (seen c.args.inside.now)
    (λ deep at s. stuck_second c.in_ok-first.ensures (stuck_first s))
    c.in_err-all.field-0.0 c.in_err-all.ensures)

pub returns : goal.returns
returns c =
    ended_as (λ r. ReadsWithin (λ (xs : Vec HeaderParameter Global). header_parameters_tree (map header_parameter_tree xs.items)) (λ y. both (leaf (a_mark m.Hash)) (both (leaf (a_mark m.Open)) y)) h.parameters_inside c.args.depth c.args.inside.now r) m.Close c.args.depth _ c.in_ok-all.all.rest.now _
    (λ y e p. rw e (h.inside_read c.args.depth _ _ _ _ c.in_ok-first.first.tree c.in_ok-all.all.tree c.in_ok-first.ensures c.in_ok-all.ensures p))
    (λ e p. fails_by (mark m.Close) h.parameters_inside c.args.depth c.args.depth (seen c.in_ok-all.all.rest.now) (seen c.args.inside.now)
    (λ deep at s. stuck_second c.in_ok-first.ensures (stuck_second c.in_ok-all.ensures.gets s)) e p)
    c.ended.ensures.tree (c.ended.ensures.mark c.args.depth)
