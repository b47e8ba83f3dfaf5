use Rattle.std.proofs.Common.{◌≤◌, ◌-◌, refl, ap, arith}
use Rattle.std.proofs.lemmas.Result.{err_from_is_err_and}
use Rattle.vs_syntax.specs.vs_lexer.specs.declared.token.Mark.TheVariants as m
use Rattle.vs_syntax.specs.Symbols.{the_mark, first}
use Rattle.vs_syntax.specs.Grammar.{part, mark, a_target}
use Rattle.vs_syntax.specs.Views.{left_tree}
use Rattle.vs_syntax.specs.Reading.{stuck_here, stuck_first, stuck_second}
use Rattle.vs_syntax.proofs.Gets.{gets_seq}
use Rattle.vs_parse_expressions.specs.Answers.{seen}
use Rattle.vs_parse_expressions.proofs.Exits.{deep_at, fails_by}
use Rattle.vs_parse_expressions.proofs.Lists.{another, goes_another, another_read, comma_by, part_stuck, end_of_parts, parts_read}
use Rattle.vs_parse_expressions.proofs.Rows.{along_start, along_push, shorter}
use Rattle.vs_parse_expressions.proofs.Lefts.{places_stuck, places_read, tree_Places}
use Rattle.vs_parse_expressions.proofs.left_side.+left.Goals as goal

pub left-returns-in_default : goal.left-returns-in_default
left-returns-in_default t c = stuck_here refl c.in_default.ensures

pub places-returns-then-depth-lt2 : goal.places-returns-then-depth-lt2
places-returns-then-depth-lt2 t c = deep_at a_target c.args.depth _ (the_mark m.OpenBrace) (ap first c.requires) refl (omega arith)

pub places-left-requires : goal.places-left-requires
places-left-requires t c = (omega arith, tt)

pub places-returns-in_err-first : goal.places-returns-in_err-first
places-returns-in_err-first t c =
    let p = err_from_is_err_and c.from_residual.result c.from_residual.ensures.1 in
    let h : 2 ≤ c.args.depth = omega arith in
    rw (p.1, p.2) (fails_by (part a_target) (part a_target) (c.args.depth - 1) c.args.depth (seen c.args.after.now) (seen c.args.tokens.now)
    (λ deep at s. places_stuck c.args.depth deep _ _ at h c.requires (stuck_first s))
    c.in_err-first.field-0.0 c.in_err-first.ensures)

pub places-loop-next-init : goal.places-loop-next-init
places-loop-next-init t c = record { along = along_start (another m.Comma a_target) (c.args.depth - 1) c.in_ok-first.first.rest.now _ (comma_by left_tree) _ c.split_at.ensures.back c.new-others.ensures.items }

pub places-returns-in_err-part : goal.places-returns-in_err-part
places-returns-in_err-part t c =
    let p = err_from_is_err_and c.from_residual-in_err-part.result c.from_residual-in_err-part.ensures.1 in
    let h : 2 ≤ c.args.depth = omega arith in
    let one : 1 ≤ c.args.depth - 1 = omega arith in
    rw (p.1, p.2) (fails_by (part a_target) (part a_target) (c.args.depth - 1) c.args.depth (seen c.in-Some.next.now) (seen c.args.tokens.now)
    (λ deep at s. places_stuck c.args.depth deep _ _ at h c.requires (stuck_second c.in_ok-first.ensures (part_stuck a_target (c.args.depth - 1) deep _ _ _ at _ one c.loop-next.invariant.along c.in-Some.ensures s)))
    c.in_err-part.field-0.0 c.in_err-part.ensures)

pub places-loop-next-preserved : goal.places-loop-next-preserved
places-loop-next-preserved t c = record {
  along = along_push (another m.Comma a_target) (c.args.depth - 1) _ _ _ (comma_by left_tree) _ _ _ c.in_ok-push.ensures.items c.loop-next.invariant.along (goes_another m.Comma a_target _ _ c.in-Some.ensures)
      (another_read m.Comma a_target (c.args.depth - 1) _ _ _ _ c.in-Some.ensures c.in_ok-part.ensures);
}

pub places-loop-next-smaller : goal.places-loop-next-smaller
places-loop-next-smaller t c =
    shorter (another m.Comma a_target) (c.args.depth - 1) (seen c.loop-next.rest.now) (seen c.in_ok-part.part.rest.now) _ (goes_another m.Comma a_target _ _ c.in-Some.ensures)
    (another_read m.Comma a_target (c.args.depth - 1) _ _ _ _ c.in-Some.ensures c.in_ok-part.ensures)

pub places-returns-in_err-behind : goal.places-returns-in_err-behind
places-returns-in_err-behind t c =
    let p = err_from_is_err_and c.from_residual-in_err-behind.result c.from_residual-in_err-behind.ensures.1 in
    let h : 2 ≤ c.args.depth = omega arith in
    rw (p.1, p.2) (fails_by (mark m.CloseBrace) (part a_target) (c.args.depth - 1) c.args.depth (seen c.loop-next.rest.now) (seen c.args.tokens.now)
    (λ deep at s. places_stuck c.args.depth deep _ _ at h c.requires (stuck_second c.in_ok-first.ensures (end_of_parts a_target (c.args.depth - 1) deep _ _ at _ c.loop-next.invariant.along c.in_default.ensures s)))
    c.in_err-behind.field-0.0 (c.in_err-behind.ensures (c.args.depth - 1)))

pub places-returns : goal.places-returns
places-returns t c =
    let h : 2 ≤ c.args.depth = omega arith in
    let others = parts_read a_target left_tree (c.args.depth - 1) _ _ _ _ c.loop-next.invariant.along c.in_default.ensures (c.in_ok-behind.ensures (c.args.depth - 1)) in
    rw (tree_Places, c.in_ok-head.ensures.ok) (places_read c.args.depth _ _ _ _ h c.requires (gets_seq c.in_ok-first.ensures others))
