use Rattle.std.proofs.Common.{map, sym, subst, ap, ◌∙◌, arith}
use Rattle.std.proofs.lemmas.Result.{err_from_is_err_and}
use Rattle.vs_widths.specs.Findings.{Refuses}
use Rattle.vs_widths.specs.select_passes.Places.{selects_meaning}
use Rattle.vs_widths.specs.Names.{meaning_of}
use Rattle.vs_widths.specs.Expressions.{meant_selects}
use Rattle.vs_widths.specs.Lefts.{as_left}
use Rattle.vs_widths.specs.passes.Aims.{AreWithin}
use Rattle.vs_widths.proofs.DepthLemmas.{falls_by}
use Rattle.vs_widths.proofs.LeftLemmas.{selects_within, name_selects_refused, name_aims, concat_refused, concat_aims, parts_start, part_refused, sum_refused, parts_step, parts_end}
use Rattle.vs_widths.proofs.ExprLemmas.{as_left_Name, as_left_Select, as_left_Concat, left_at, no_deeper}
use Rattle.vs_widths.proofs.lefts.+aim_expr.Goals as goal

pub aim_expr-returns-in_err-selects-in-Select : goal.aim_expr-returns-in_err-selects-in-Select
aim_expr-returns-in_err-selects-in-Select t c =
    let env = meaning_of c.args.names.now in
    let p = err_from_is_err_and c.from_residual.result c.from_residual.ensures.1 in
    rw (p.1, p.2, c.in-Select.is) (name_selects_refused c.args.how env _ c.in-Select.name.items c.in-Select.selects.items c.deref-in-Select.result.now c.in_err-selects-in-Select.field-0.0 (as_left_Select c.args.how env c.in-Select.name c.in-Select.selects)
    c.deref-in-Select.ensures.value c.in_err-selects-in-Select.ensures)

pub aim_expr-named_target-requires-in-Select-clause-within : goal.aim_expr-named_target-requires-in-Select-clause-within
aim_expr-named_target-requires-in-Select-clause-within t c =
    let env = meaning_of c.args.names.now in
    subst (AreWithin env) (sym c.in_ok-selects-in-Select.ensures.means) (selects_within env c.deref-in-Select.result.now)

pub aim_expr-returns-in_err-first-in-Concat : goal.aim_expr-returns-in_err-first-in-Concat
aim_expr-returns-in_err-first-in-Concat t c =
    let env = meaning_of c.args.names.now in
    let p = err_from_is_err_and c.from_residual-in_err-first-in-Concat.result c.from_residual-in_err-first-in-Concat.ensures.1 in
    rw (p.1, p.2, c.in-Concat.is) (concat_refused _ (as_left c.args.how env c.in-Concat.first.value) (map (as_left c.args.how env) c.in-Concat.rest.items) c.in_err-first-in-Concat.field-0.0 (as_left_Concat c.args.how env c.in-Concat.first c.in-Concat.rest)
    (subst (λ z. Refuses (as_left c.args.how env z).finding c.in_err-first-in-Concat.field-0.0) c.deref-in-Concat.ensures c.in_err-first-in-Concat.ensures))

pub aim_expr-returns-in-Name : goal.aim_expr-returns-in-Name
aim_expr-returns-in-Name t c =
    let env = meaning_of c.args.names.now in
    rw c.in-Name.is (name_aims c.args.how env _ c.in-Name.name.items c.deref.result.now _ _ c.named_target.result (as_left_Name c.args.how env c.in-Name.name) c.deref.ensures.value (ap selects_meaning c.new.ensures.items) c.named_target.ensures)

pub aim_expr-returns-in_ok-selects-in-Select : goal.aim_expr-returns-in_ok-selects-in-Select
aim_expr-returns-in_ok-selects-in-Select t c =
    let env = meaning_of c.args.names.now in
    rw c.in-Select.is (name_aims c.args.how env _ c.in-Select.name.items c.deref-in-Select-2.result.now _ _ c.named_target-in-Select.result (as_left_Select c.args.how env c.in-Select.name c.in-Select.selects) c.deref-in-Select-2.ensures.value
    (c.in_ok-selects-in-Select.ensures.means ∙ ap (meant_selects env) c.deref-in-Select.ensures.value) c.named_target-in-Select.ensures)

pub aim_expr-returns-in_ok-first-in-Concat : goal.aim_expr-returns-in_ok-first-in-Concat
aim_expr-returns-in_ok-first-in-Concat t c =
    let env = meaning_of c.args.names.now in
    rw c.in-Concat.is (concat_aims c.args.how env _ _ (as_left c.args.how env c.deref-in-Concat.result.now) _ (map (as_left c.args.how env) c.deref-in-Concat-2.result.now) c.aim_exprs.result (as_left_Concat c.args.how env c.in-Concat.first c.in-Concat.rest)
    (ap (as_left c.args.how env) c.deref-in-Concat.ensures) (ap (map (as_left c.args.how env)) c.deref-in-Concat-2.ensures.value) (c.aim_exprs.ensures (as_left c.args.how env c.deref-in-Concat.result.now) c.in_ok-first-in-Concat.ensures))

pub aim_exprs-loop-e-init : goal.aim_exprs-loop-e-init
aim_exprs-loop-e-init t c = record { whole = λ m h. parts_start c.args.how (meaning_of c.args.names.now) (as_left c.args.how (meaning_of c.args.names.now)) m c.args.rest.now c.args.first h }

pub aim_exprs-aim_expr-requires : goal.aim_exprs-aim_expr-requires
aim_exprs-aim_expr-requires t c =
    (falls_by 2 _ c.args.rest.now c.loop-e.e-index t _ c.e-item.result (omega arith) c.e-item.is c.decreases (no_deeper _), left_at c.args.rest.now c.loop-e.e-index c.e-item.result (omega arith) c.e-item.is c.requires.left)

pub aim_exprs-returns-in_err-part : goal.aim_exprs-returns-in_err-part
aim_exprs-returns-in_err-part t c =
    let env = meaning_of c.args.names.now in
    let p = err_from_is_err_and c.from_residual.result c.from_residual.ensures.1 in
    rw (p.1, p.2) (λ m h. part_refused c.args.how env (as_left c.args.how env) m c.args.rest.now c.loop-e.e-index c.e-item.result c.in_err-part.field-0.0 (omega arith) c.e-item.is c.in_err-part.ensures)

pub aim_exprs-returns-in_err-whole : goal.aim_exprs-returns-in_err-whole
aim_exprs-returns-in_err-whole t c =
    let env = meaning_of c.args.names.now in
    let p = err_from_is_err_and c.from_residual-in_err-whole.result c.from_residual-in_err-whole.ensures.1 in
    rw (p.1, p.2) (λ m h. sum_refused c.args.how env (as_left c.args.how env) m c.args.rest.now c.loop-e.e-index c.e-item.result c.loop-e.whole c.in_ok-part.part c.in_err-whole.field-0.0 (omega arith) c.e-item.is
    (c.loop-e.invariant.whole m h) c.in_ok-part.ensures c.in_err-whole.ensures)

pub aim_exprs-loop-e-preserved : goal.aim_exprs-loop-e-preserved
aim_exprs-loop-e-preserved t c = record {
  whole = λ m h. parts_step c.args.how (meaning_of c.args.names.now) (as_left c.args.how (meaning_of c.args.names.now)) m c.args.rest.now c.loop-e.e-index c.e-item.result c.loop-e.whole c.in_ok-part.part c.in_ok-whole.whole (omega arith) c.e-item.is
      (c.loop-e.invariant.whole m h) c.in_ok-part.ensures c.in_ok-whole.ensures;
}

pub aim_exprs-returns : goal.aim_exprs-returns
aim_exprs-returns t c =
    λ m h. parts_end c.args.how (meaning_of c.args.names.now) (as_left c.args.how (meaning_of c.args.names.now)) m c.args.rest.now c.loop-e.e-index c.loop-e.whole (omega arith) (c.loop-e.invariant.whole m h)
