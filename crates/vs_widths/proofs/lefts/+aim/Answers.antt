use Rattle.std.proofs.Common.{map, sym, subst, arith}
use Rattle.std.proofs.lemmas.Result.{err_from_is_err_and}
use Rattle.vs_widths.specs.Names.{meaning_of}
use Rattle.vs_widths.specs.Findings.{Refuses}
use Rattle.vs_widths.specs.Lefts.{aimed}
use Rattle.vs_widths.specs.passes.Aims.{AreWithin}
use Rattle.vs_widths.proofs.LeftLemmas.{aimed_Name, aimed_Concat, selects_within, name_selects_refused, concat_refused, parts_start, part_refused, sum_refused, parts_step, parts_end}
use Rattle.vs_widths.proofs.lefts.+aim.Goals as goal

pub aim-returns-in_err-selects-in-Name : goal.aim-returns-in_err-selects-in-Name
aim-returns-in_err-selects-in-Name t c =
    let p = err_from_is_err_and c.from_residual.result c.from_residual.ensures.1 in
    rw (p.1, p.2, c.in-Name.is) (name_selects_refused c.args.how (meaning_of c.args.names.now) _ c.in-Name.name.items c.in-Name.selects.items c.deref.result.now c.in_err-selects-in-Name.field-0.0 (aimed_Name c.args.how (meaning_of c.args.names.now) c.in-Name.name c.in-Name.selects)
    c.deref.ensures.value c.in_err-selects-in-Name.ensures)

pub aim-named_target-requires-clause-within : goal.aim-named_target-requires-clause-within
aim-named_target-requires-clause-within t c =
    let env = meaning_of c.args.names.now in
    subst (AreWithin env) (sym c.in_ok-selects-in-Name.ensures.means) (selects_within env c.deref.result.now)

pub aim-returns-in_err-first-in-Concat : goal.aim-returns-in_err-first-in-Concat
aim-returns-in_err-first-in-Concat t c =
    let p = err_from_is_err_and c.from_residual-in_err-first-in-Concat.result c.from_residual-in_err-first-in-Concat.ensures.1 in
    rw (p.1, p.2, c.in-Concat.is) (concat_refused _ (aimed c.args.how (meaning_of c.args.names.now) c.in-Concat.first.value) (map (aimed c.args.how (meaning_of c.args.names.now)) c.in-Concat.rest.items) c.in_err-first-in-Concat.field-0.0
    (aimed_Concat c.args.how (meaning_of c.args.names.now) c.in-Concat.first c.in-Concat.rest)
    (subst (λ z. Refuses (aimed c.args.how (meaning_of c.args.names.now) z).finding c.in_err-first-in-Concat.field-0.0) c.deref-in-Concat.ensures c.in_err-first-in-Concat.ensures))

pub aim_parts-loop-left-init : goal.aim_parts-loop-left-init
aim_parts-loop-left-init t c = record { all = λ m h. parts_start c.args.how (meaning_of c.args.names.now) (aimed c.args.how (meaning_of c.args.names.now)) m c.args.rest.now c.args.first h }

pub aim_parts-returns-in_err-part : goal.aim_parts-returns-in_err-part
aim_parts-returns-in_err-part t c =
    let p = err_from_is_err_and c.from_residual.result c.from_residual.ensures.1 in
    rw (p.1, p.2) (λ m h. part_refused c.args.how (meaning_of c.args.names.now) (aimed c.args.how (meaning_of c.args.names.now)) m c.args.rest.now c.loop-left.left-index c.left-item.result c.in_err-part.field-0.0 (omega arith) c.left-item.is c.in_err-part.ensures)

pub aim_parts-returns-in_err-all : goal.aim_parts-returns-in_err-all
aim_parts-returns-in_err-all t c =
    let p = err_from_is_err_and c.from_residual-in_err-all.result c.from_residual-in_err-all.ensures.1 in
    rw (p.1, p.2) (λ m h. sum_refused c.args.how (meaning_of c.args.names.now) (aimed c.args.how (meaning_of c.args.names.now)) m c.args.rest.now c.loop-left.left-index c.left-item.result c.loop-left.all c.in_ok-part.part c.in_err-all.field-0.0 (omega arith) c.left-item.is
    (c.loop-left.invariant.all m h) c.in_ok-part.ensures c.in_err-all.ensures)

pub aim_parts-loop-left-preserved : goal.aim_parts-loop-left-preserved
aim_parts-loop-left-preserved t c = record {
  all = λ m h. parts_step c.args.how (meaning_of c.args.names.now) (aimed c.args.how (meaning_of c.args.names.now)) m c.args.rest.now c.loop-left.left-index c.left-item.result c.loop-left.all c.in_ok-part.part c.in_ok-all.all (omega arith) c.left-item.is (c.loop-left.invariant.all m h)
      c.in_ok-part.ensures c.in_ok-all.ensures;
}

pub aim_parts-returns : goal.aim_parts-returns
aim_parts-returns t c = λ m h. parts_end c.args.how (meaning_of c.args.names.now) (aimed c.args.how (meaning_of c.args.names.now)) m c.args.rest.now c.loop-left.left-index c.loop-left.all (omega arith) (c.loop-left.invariant.all m h)
