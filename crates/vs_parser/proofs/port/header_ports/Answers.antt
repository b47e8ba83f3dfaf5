use Rattle.std.proofs.Common.{refl}
use Rattle.std.proofs.lemmas.Result.{err_from_is_err_and}
use Rattle.std.specs.Option.{option_map}
use Rattle.std.specs.declared.vec.Vec.{Vec}
use Rattle.std.specs.declared.alloc.Global.{Global}
use Rattle.vs_syntax.specs.vs_lexer.specs.declared.token.Mark.TheVariants as m
use Rattle.vs_syntax.specs.Symbols.{a_mark, the_mark}
use Rattle.vs_syntax.specs.Grammar.{◌·◌, ◌or◌, nothing, mark, header_ports}
use Rattle.vs_syntax.specs.Reading.{stuck_first, stuck_second}
use Rattle.vs_syntax.proofs.Gets.{gets_seq}
use Rattle.vs_syntax.specs.Views.{header_ports_tree}
use Rattle.vs_syntax.specs.declared.tree.Port.{Port}
use Rattle.vs_parse_expressions.specs.Answers.{seen, ReadsTree}
use Rattle.vs_parse_expressions.proofs.Exits.{fails_by}
use Rattle.vs_parser.specs.Ports.{ports_within}
use Rattle.vs_parse_expressions.proofs.Forms.{absent, present_stuck, present_read}
use Rattle.vs_parse_expressions.proofs.Parts.{ended_as}
use Rattle.vs_parser.proofs.port.header_ports.Goals as goal

pub returns-in_default : goal.returns-in_default
returns-in_default c = absent (the_mark m.Open) (ports_within · mark m.Close) c.args.depth _ c.in_default.ensures

pub returns-in_err-inside : goal.returns-in_err-inside
returns-in_err-inside c =
    let p = err_from_is_err_and c.from_residual.result c.from_residual.ensures.1 in
    rw (p.1, p.2) (fails_by ports_within (header_ports or nothing) c.args.depth c.args.depth (seen c.in-Some.after.now) (seen c.args.tokens.now)
    (λ deep at s. present_stuck (a_mark m.Open) (ports_within · mark m.Close) c.args.depth deep _ _ at refl c.in-Some.ensures (stuck_first s))
    c.in_err-inside.field-0.0 c.in_err-inside.ensures)

pub returns : goal.returns
returns c =
    ended_as (λ r. ReadsTree (header_ports or nothing) c.args.depth c.args.tokens.now (λ o. header_ports_tree (option_map (λ (ps : Vec Port Global). ps.items) o)) r) m.Close c.args.depth _ c.in_ok-inside.inside.rest.now _
    (λ y e p. rw e (present_read (a_mark m.Open) (ports_within · mark m.Close) c.args.depth _ _ _ _ c.in-Some.ensures (gets_seq c.in_ok-inside.ensures p)))
    (λ e p. fails_by (mark m.Close) (header_ports or nothing) c.args.depth c.args.depth (seen c.in_ok-inside.inside.rest.now) (seen c.args.tokens.now)
    (λ deep at s. present_stuck (a_mark m.Open) (ports_within · mark m.Close) c.args.depth deep _ _ at refl c.in-Some.ensures (stuck_second c.in_ok-inside.ensures s)) e p)
    c.ended.ensures.tree (c.ended.ensures.mark c.args.depth)
