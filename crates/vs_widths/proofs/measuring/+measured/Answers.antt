use Rattle.std.proofs.Common.{Some, None, Ok, Err, map, refl, ap, sym, ◌∙◌, arith, rules}
use Rattle.std.proofs.Math.Nat.{le_refl}
use Rattle.std.proofs.lemmas.Result.{err_from_is_err_and}
use Rattle.vs_widths.specs.Names.{meaning_of}
use Rattle.vs_widths.specs.select_passes.Measures.{meaning}
use Rattle.vs_widths.specs.Each.{each_none}
use Rattle.vs_widths.specs.Expressions.{meant, name_meant, number_meant, unary_meant, chain_meant, repeat_meant}
use Rattle.vs_widths.specs.passes.Forms.{links_meant, pairs_meant, IsChoicePair, IsPartOf}
use Rattle.vs_widths.proofs.FittingLemmas.{each_step}
use Rattle.vs_widths.proofs.DepthLemmas.{falls_by, falls_one, falls_within, first_most, second_most}
use Rattle.vs_design.specs.vs_logic4.proofs.Basics.{second_most as middle_most}
use Rattle.vs_widths.proofs.MeasuringLemmas.{measures_as, meant_Number, meant_Name, meant_Group, links_end, chain_refused, choice_refused, concat_refused, count_refused, counted_refused, parts_refused, form_Unary, form_Cast, form_Chain, form_Choice, form_Concat, form_Repeat, unary_refused, cast_refused, concat_closed, cast_closed, links_step, link_refused, pair_of, pairs_step, condition_refused, operand_refused, pairs_end, sum_one, part_of, parts_step, size_step, part_refused, part_too_wide, parts_end}
use Rattle.vs_widths.proofs.SelectLemmas.{select_refused, place_measures, selects_step, bit_meaning, part_meaning, index_refused, other_refused}
use Rattle.vs_widths.proofs.measuring.+measured.Goals as goal

pub measured-returns-in_err-selects-in-Select : goal.measured-returns-in_err-selects-in-Select
measured-returns-in_err-selects-in-Select t c =
    let p = err_from_is_err_and c.from_residual.result c.from_residual.ensures.1 in
    rw (p.1, p.2, c.in-Select.is) (select_refused (meaning_of c.args.names.now) c.in-Select.name c.in-Select.selects c.deref-in-Select.result.now c.in_err-selects-in-Select.field-0.0 c.deref-in-Select.ensures.value c.in_err-selects-in-Select.ensures)

pub measured-returns-in_ok-selects-in-Select : goal.measured-returns-in_ok-selects-in-Select
measured-returns-in_ok-selects-in-Select t c =
    rw c.in-Select.is (place_measures (meaning_of c.args.names.now) c.in-Select.name c.in-Select.selects c.find-in-Select.result c.deref-in-Select-2.result.now c.deref-in-Select.result.now c.in_ok-selects-in-Select.selects.items c.of_select.result
    c.find-in-Select.ensures c.deref-in-Select-2.ensures.value c.deref-in-Select.ensures.value c.in_ok-selects-in-Select.ensures c.of_select.ensures)

pub measured-returns-in-Number : goal.measured-returns-in-Number
measured-returns-in-Number t c = rw c.in-Number.is (measures_as (number_meant c.in-Number.literal) _ (Ok c.of_digits.result) (meant_Number (meaning_of c.args.names.now) c.in-Number.literal) c.of_digits.ensures)

pub measured-returns-in-Name : goal.measured-returns-in-Name
measured-returns-in-Name t c =
    rw c.in-Name.is (measures_as (name_meant c.find.result) _ c.of_name.result
    (meant_Name (meaning_of c.args.names.now) c.in-Name.name ∙ ap name_meant (ap (meaning_of c.args.names.now) (sym c.deref.ensures.value) ∙ sym c.find.ensures)) c.of_name.ensures.measures)

pub measured-returns-in-Group : goal.measured-returns-in-Group
measured-returns-in-Group t c =
    rw c.in-Group.is (measures_as (meant (meaning_of c.args.names.now) c.deref-in-Group.result.now) _ c.measured.result (meant_Group (meaning_of c.args.names.now) c.in-Group.inner ∙ ap (meant (meaning_of c.args.names.now)) (sym c.deref-in-Group.ensures)) c.measured.ensures)

pub measured-returns-in-Chain : goal.measured-returns-in-Chain
measured-returns-in-Chain t c =
    rw c.in-Chain.is (form_Chain (meaning_of c.args.names.now) c.in-Chain.first c.in-Chain.links _ c.deref-in-Chain-2.result.now c.measured_links.result c.deref-in-Chain.ensures c.deref-in-Chain-2.ensures.value c.measured_links.ensures)

pub measured-returns-in-Choice : goal.measured-returns-in-Choice
measured-returns-in-Choice t c =
    rw c.in-Choice.is (form_Choice (meaning_of c.args.names.now) c.in-Choice.pairs c.in-Choice.last c.deref-in-Choice.result.now _ c.measured_pairs.result c.deref-in-Choice.ensures.value c.deref-in-Choice-2.ensures c.measured_pairs.ensures)

pub measured-returns-in_err-x-in-Unary : goal.measured-returns-in_err-x-in-Unary
measured-returns-in_err-x-in-Unary t c =
    let env = meaning_of c.args.names.now in
    let p = err_from_is_err_and c.from_residual-in_err-x-in-Unary.result c.from_residual-in_err-x-in-Unary.ensures.1 in
    rw (p.1, p.2, c.in-Unary.is) (form_Unary env c.in-Unary.operator c.in-Unary.x c.deref-in-Unary.result.now (Err c.in_err-x-in-Unary.field-0.0) c.deref-in-Unary.ensures
    (unary_refused c.in-Unary.operator (meant env c.deref-in-Unary.result.now) c.in_err-x-in-Unary.field-0.0 c.in_err-x-in-Unary.ensures))

pub measured-returns-in_ok-x-in-Unary : goal.measured-returns-in_ok-x-in-Unary
measured-returns-in_ok-x-in-Unary t c =
    let env = meaning_of c.args.names.now in
    rw c.in-Unary.is (form_Unary env c.in-Unary.operator c.in-Unary.x c.deref-in-Unary.result.now c.of_unary.result c.deref-in-Unary.ensures
    (measures_as (unary_meant c.in-Unary.operator (meaning c.in_ok-x-in-Unary.x)) _ c.of_unary.result (ap (unary_meant c.in-Unary.operator) c.in_ok-x-in-Unary.ensures.means) c.of_unary.ensures))

pub measured-returns-in_err-parts-in-Concat : goal.measured-returns-in_err-parts-in-Concat
measured-returns-in_err-parts-in-Concat t c =
    let p = err_from_is_err_and c.from_residual-in_err-parts-in-Concat.result c.from_residual-in_err-parts-in-Concat.ensures.1 in
    rw (p.1, p.2, c.in-Concat.is) (form_Concat (meaning_of c.args.names.now) c.in-Concat.first c.in-Concat.rest c.deref-in-Concat.result.now c.deref-in-Concat-2.result.now (Err c.in_err-parts-in-Concat.field-0.0)
    c.deref-in-Concat.ensures c.deref-in-Concat-2.ensures.value c.in_err-parts-in-Concat.ensures)

pub measured-returns-in_ok-parts-in-Concat : goal.measured-returns-in_ok-parts-in-Concat
measured-returns-in_ok-parts-in-Concat t c =
    let env = meaning_of c.args.names.now in
    rw c.in-Concat.is (form_Concat env c.in-Concat.first c.in-Concat.rest c.deref-in-Concat.result.now c.deref-in-Concat-2.result.now c.closed.result c.deref-in-Concat.ensures c.deref-in-Concat-2.ensures.value
    (concat_closed (meant env c.deref-in-Concat.result.now) (map (meant env) c.deref-in-Concat-2.result.now) c.in_ok-parts-in-Concat.parts c.closed.result c.in_ok-parts-in-Concat.ensures c.closed.ensures))

pub measured-returns-in_err-parts-in-Repeat : goal.measured-returns-in_err-parts-in-Repeat
measured-returns-in_err-parts-in-Repeat t c =
    let env = meaning_of c.args.names.now in
    let p = err_from_is_err_and c.from_residual-in_err-parts-in-Repeat.result c.from_residual-in_err-parts-in-Repeat.ensures.1 in
    rw (p.1, p.2, c.in-Repeat.is) (form_Repeat env c.in-Repeat.count c.in-Repeat.first c.in-Repeat.rest c.in-Repeat.count.value c.deref-in-Repeat.result.now c.deref-in-Repeat-2.result.now (Err c.in_err-parts-in-Repeat.field-0.0)
    refl c.deref-in-Repeat.ensures c.deref-in-Repeat-2.ensures.value
    (parts_refused (meant env c.in-Repeat.count.value) (meant env c.deref-in-Repeat.result.now) (map (meant env) c.deref-in-Repeat-2.result.now) c.in_err-parts-in-Repeat.field-0.0 c.in_err-parts-in-Repeat.ensures))

pub measured-returns-in_err-count-in-Repeat : goal.measured-returns-in_err-count-in-Repeat
measured-returns-in_err-count-in-Repeat t c =
    let env = meaning_of c.args.names.now in
    let p = err_from_is_err_and c.from_residual-in_err-count-in-Repeat.result c.from_residual-in_err-count-in-Repeat.ensures.1 in
    let count = meant env c.deref-in-Repeat-3.result.now in
    let d = c.in_err-count-in-Repeat.field-0.0 in
    rw (p.1, p.2, c.in-Repeat.is) (form_Repeat env c.in-Repeat.count c.in-Repeat.first c.in-Repeat.rest c.deref-in-Repeat-3.result.now c.deref-in-Repeat.result.now c.deref-in-Repeat-2.result.now (Err d)
    c.deref-in-Repeat-3.ensures c.deref-in-Repeat.ensures c.deref-in-Repeat-2.ensures.value
    (count_refused count (meant env c.deref-in-Repeat.result.now) (map (meant env) c.deref-in-Repeat-2.result.now) d (counted_refused count d c.in_err-count-in-Repeat.ensures)))

pub measured-returns-in_ok-count-in-Repeat : goal.measured-returns-in_ok-count-in-Repeat
measured-returns-in_ok-count-in-Repeat t c =
    let env = meaning_of c.args.names.now in
    let first = meant env c.deref-in-Repeat.result.now in
    let rest = map (meant env) c.deref-in-Repeat-2.result.now in
    rw c.in-Repeat.is (form_Repeat env c.in-Repeat.count c.in-Repeat.first c.in-Repeat.rest c.deref-in-Repeat-3.result.now c.deref-in-Repeat.result.now c.deref-in-Repeat-2.result.now c.counted.result
    c.deref-in-Repeat-3.ensures c.deref-in-Repeat.ensures c.deref-in-Repeat-2.ensures.value
    (measures_as (repeat_meant (meaning c.in_ok-count-in-Repeat.count) first rest) _ c.counted.result (ap (λ z. repeat_meant z first rest) c.in_ok-count-in-Repeat.ensures.means) (c.counted.ensures first rest c.in_ok-parts-in-Repeat.ensures)))

pub measured-returns-in_err-x-in-Cast : goal.measured-returns-in_err-x-in-Cast
measured-returns-in_err-x-in-Cast t c =
    let env = meaning_of c.args.names.now in
    let p = err_from_is_err_and c.from_residual-in_err-x-in-Cast.result c.from_residual-in_err-x-in-Cast.ensures.1 in
    rw (p.1, p.2, c.in-Cast.is) (form_Cast env c.in-Cast.signed c.in-Cast.x c.deref-in-Cast.result.now (Err c.in_err-x-in-Cast.field-0.0) c.deref-in-Cast.ensures
    (cast_refused c.in-Cast.signed (meant env c.deref-in-Cast.result.now) c.in_err-x-in-Cast.field-0.0 c.in_err-x-in-Cast.ensures))

pub measured-returns-in_ok-x-in-Cast : goal.measured-returns-in_ok-x-in-Cast
measured-returns-in_ok-x-in-Cast t c =
    let env = meaning_of c.args.names.now in
    rw c.in-Cast.is (form_Cast env c.in-Cast.signed c.in-Cast.x c.deref-in-Cast.result.now c.closed-in-Cast.result c.deref-in-Cast.ensures
    (cast_closed c.in-Cast.signed (meant env c.deref-in-Cast.result.now) c.in_ok-x-in-Cast.x _ c.closed-in-Cast.result c.in_ok-x-in-Cast.ensures refl refl c.closed-in-Cast.ensures))

pub measured_links-returns-in_err-all : goal.measured_links-returns-in_err-all
measured_links-returns-in_err-all t c =
    let p = err_from_is_err_and c.from_residual.result c.from_residual.ensures.1 in
    rw (p.1, p.2) (chain_refused (meant (meaning_of c.args.names.now) c.args.first.now) (links_meant (meaning_of c.args.names.now) c.args.links.now) c.in_err-all.field-0.0 c.in_err-all.ensures)

pub measured_links-loop-operator-init : goal.measured_links-loop-operator-init
measured_links-loop-operator-init t c = record {
  whole = ap (λ z. chain_meant z (links_meant (meaning_of c.args.names.now) c.args.links.now)) (sym c.in_ok-all.ensures.means);
  flexible = c.in_ok-all.ensures.flexible;
}

pub measured_links-returns-in_err-operand : goal.measured_links-returns-in_err-operand
measured_links-returns-in_err-operand t c =
    let p = err_from_is_err_and c.from_residual-in_err-operand.result c.from_residual-in_err-operand.ensures.1 in
    rw (p.1, p.2) (link_refused (meaning_of c.args.names.now) c.loop-operator.all (meant (meaning_of c.args.names.now) c.args.first.now) c.args.links.now c.loop-operator.operator-index c.loop-operator-item.result c.in_err-operand.field-0.0 (omega arith) c.loop-operator-item.is
    c.in_err-operand.ensures c.loop-operator.invariant.whole)

pub measured_links-loop-operator-preserved : goal.measured_links-loop-operator-preserved
measured_links-loop-operator-preserved t c = record {
  whole = links_step (meaning_of c.args.names.now) c.loop-operator.all c.in_ok-operand.operand c.in_ok-all-2.all (meant (meaning_of c.args.names.now) c.args.first.now) c.args.links.now c.loop-operator.operator-index c.loop-operator-item.result (omega arith)
      c.loop-operator-item.is c.in_ok-operand.ensures c.in_ok-all-2.ensures c.loop-operator.invariant.whole;
  flexible = c.in_ok-all-2.ensures.flexible;
}

pub measured_pairs-returns-in_err-fallback : goal.measured_pairs-returns-in_err-fallback
measured_pairs-returns-in_err-fallback t c =
    let p = err_from_is_err_and c.from_residual.result c.from_residual.ensures.1 in
    rw (p.1, p.2) (choice_refused (pairs_meant (meaning_of c.args.names.now) c.args.pairs.now) (meant (meaning_of c.args.names.now) c.args.last.now) c.in_err-fallback.field-0.0 c.in_err-fallback.ensures)

pub measured_pairs-loop-condition-init : goal.measured_pairs-loop-condition-init
measured_pairs-loop-condition-init t c = record { whole = refl; pairs = rw c.new-done.ensures.items each_none }

pub measured_pairs-returns-in_err-condition : goal.measured_pairs-returns-in_err-condition
measured_pairs-returns-in_err-condition t c =
    let p = err_from_is_err_and c.from_residual-in_err-condition.result c.from_residual-in_err-condition.ensures.1 in
    rw (p.1, p.2, c.in_ok-fallback.ensures.means) (condition_refused (meaning_of c.args.names.now) c.loop-condition.shape c.in_ok-fallback.fallback.shape c.args.pairs.now c.loop-condition.condition-index c.loop-condition-item.result c.in_err-condition.field-0.0 (omega arith)
    c.loop-condition-item.is c.loop-condition.invariant.whole c.in_err-condition.ensures)

pub measured_pairs-returns-in_err-operand : goal.measured_pairs-returns-in_err-operand
measured_pairs-returns-in_err-operand t c =
    let p = err_from_is_err_and c.from_residual-in_err-operand.result c.from_residual-in_err-operand.ensures.1 in
    rw (p.1, p.2, c.in_ok-fallback.ensures.means) (operand_refused (meaning_of c.args.names.now) c.loop-condition.shape c.in_ok-fallback.fallback.shape c.args.pairs.now c.loop-condition.condition-index c.loop-condition-item.result c.in_err-operand.field-0.0 (omega arith)
    c.loop-condition-item.is c.loop-condition.invariant.whole c.in_err-operand.ensures)

pub measured_pairs-loop-condition-preserved : goal.measured_pairs-loop-condition-preserved
measured_pairs-loop-condition-preserved t c = record {
  whole = pairs_step (meaning_of c.args.names.now) c.loop-condition.shape c.joined_shape-shape.result c.in_ok-fallback.fallback.shape c.args.pairs.now c.loop-condition.condition-index c.loop-condition-item.result c.in_ok-condition.condition c.in_ok-operand.operand
      (omega arith) c.loop-condition-item.is c.in_ok-condition.ensures c.in_ok-operand.ensures c.joined_shape-shape.ensures.found c.loop-condition.invariant.whole;
  pairs = each_step (IsChoicePair (meaning_of c.args.names.now)) c.args.pairs.now c.loop-condition.condition-index c.loop-condition-item.result c.loop-condition.done.items _ _ (omega arith) c.loop-condition-item.is c.in_ok-add_pair.ensures.added
      c.loop-condition.invariant.pairs
      (pair_of (meaning_of c.args.names.now) c.loop-condition-item.result c.in_ok-condition.condition c.in_ok-operand.operand c.in_ok-add_pair.ensures.part c.in_ok-condition.ensures c.in_ok-operand.ensures c.in_ok-add_pair.ensures.own_part);
}

pub measured_pairs-returns : goal.measured_pairs-returns
measured_pairs-returns t c =
    rw c.in_ok-fallback.ensures.means (pairs_end (meaning_of c.args.names.now) c.in_ok-fallback.fallback c.loop-condition.shape c.args.pairs.now c.loop-condition.condition-index c.loop-condition.done c.in_ok-new.field-0 (omega arith) c.in_ok-new.ensures.ok c.in_ok-fallback.ensures.flexible
    c.loop-condition.invariant.whole c.loop-condition.invariant.pairs)

pub measured_parts-returns-in_err-highest : goal.measured_parts-returns-in_err-highest
measured_parts-returns-in_err-highest t c =
    let p = err_from_is_err_and c.from_residual.result c.from_residual.ensures.1 in
    rw (p.1, p.2) (concat_refused (meant (meaning_of c.args.names.now) c.args.first.now) (map (meant (meaning_of c.args.names.now)) c.args.rest.now) c.in_err-highest.field-0.0 c.in_err-highest.ensures)

pub measured_parts-loop-e-init : goal.measured_parts-loop-e-init
measured_parts-loop-e-init t c = record { whole = refl; sizes = λ w. rw c.new-done.ensures.items (sum_one c.in_ok-highest.highest.shape.width); parts = rw c.new-done.ensures.items each_none; some = search rules; most = search rules }

pub measured_parts-returns-in_err-part : goal.measured_parts-returns-in_err-part
measured_parts-returns-in_err-part t c =
    let p = err_from_is_err_and c.from_residual-in_err-part.result c.from_residual-in_err-part.ensures.1 in
    rw (p.1, p.2, c.in_ok-highest.ensures.means) (part_refused (meaning_of c.args.names.now) c.loop-e.width c.in_ok-highest.highest.shape.width c.args.rest.now c.loop-e.e-index c.e-item.result c.in_err-part.field-0.0 (omega arith) c.e-item.is c.loop-e.invariant.whole c.in_err-part.ensures)

pub measured_parts-returns-then-width-part-gt64 : goal.measured_parts-returns-then-width-part-gt64
measured_parts-returns-then-width-part-gt64 t c =
    rw c.in_ok-highest.ensures.means (part_too_wide (meaning_of c.args.names.now) c.loop-e.width c.in_ok-highest.highest.shape.width c.args.rest.now c.loop-e.e-index c.e-item.result c.in_ok-part.part (omega arith) c.e-item.is c.in_ok-part.ensures (omega arith) c.loop-e.invariant.whole)

pub measured_parts-loop-e-preserved : goal.measured_parts-loop-e-preserved
measured_parts-loop-e-preserved t c = record {
  whole = parts_step (meaning_of c.args.names.now) c.loop-e.width _ c.in_ok-highest.highest.shape.width c.args.rest.now c.loop-e.e-index c.e-item.result c.in_ok-part.part (omega arith) c.e-item.is c.in_ok-part.ensures refl (omega arith) c.loop-e.invariant.whole;
  sizes = λ w. size_step (meaning_of c.args.names.now) w c.in_ok-highest.highest.shape.width c.loop-e.width _ c.loop-e.done.items _ c.in_ok-part.part c.in_ok-add_part.ensures.part c.in_ok-part.ensures.flexible c.in_ok-add_part.ensures.own_part refl c.in_ok-add_part.ensures.added (c.loop-e.invariant.sizes w);
  parts = each_step (IsPartOf (meaning_of c.args.names.now)) c.args.rest.now c.loop-e.e-index c.e-item.result c.loop-e.done.items _ _ (omega arith) c.e-item.is c.in_ok-add_part.ensures.added c.loop-e.invariant.parts
      (part_of (meaning_of c.args.names.now) c.e-item.result c.in_ok-part.part c.in_ok-add_part.ensures.part c.in_ok-part.ensures c.in_ok-add_part.ensures.own_part);
  some = omega arith;
  most = omega arith;
}

pub measured_parts-returns : goal.measured_parts-returns
measured_parts-returns t c =
    rw c.in_ok-highest.ensures.means (parts_end (meaning_of c.args.names.now) c.in_ok-highest.highest c.in_ok-highest-2.highest c.unsigned.result c.loop-e.width c.args.rest.now c.loop-e.e-index c.loop-e.done c.in_ok-new.field-0 (omega arith) c.in_ok-new.ensures.ok c.in_ok-highest.ensures.flexible c.in_ok-highest-2.ensures (omega arith) c.unsigned.ensures.sign c.unsigned.ensures.width
    c.loop-e.invariant.whole c.loop-e.invariant.sizes c.loop-e.invariant.parts)

pub measured_selects-returns-in_err-index : goal.measured_selects-returns-in_err-index
measured_selects-returns-in_err-index t c =
    let p = err_from_is_err_and c.from_residual.result c.from_residual.ensures.1 in
    rw (p.1, p.2) (index_refused (meaning_of c.args.names.now) c.args.selects.now c.loop-index.index-index c.loop-index-item.result _ (omega arith) c.loop-index-item.is c.in_err-index.ensures)

pub measured_selects-returns-in_err-other : goal.measured_selects-returns-in_err-other
measured_selects-returns-in_err-other t c =
    let p = err_from_is_err_and c.from_residual-in_err-other.result c.from_residual-in_err-other.ensures.1 in
    rw (p.1, p.2) (other_refused (meaning_of c.args.names.now) c.args.selects.now c.loop-index.index-index c.loop-index-item.result _ _ _ (omega arith) c.loop-index-item.is c.in-Some.is c.in_err-other.ensures)

pub measured_selects-loop-index-preserved-in_default : goal.measured_selects-loop-index-preserved-in_default
measured_selects-loop-index-preserved-in_default t c =
    selects_step (meaning_of c.args.names.now) c.args.selects.now c.loop-index.index-index c.loop-index-item.result c.loop-index.done.items _ (c.in_ok-index.index, None) (omega arith) c.loop-index-item.is c.in_ok-push.ensures.items
    c.loop-index.invariant (bit_meaning (meaning_of c.args.names.now) c.loop-index-item.result c.in_ok-index.index c.in_default.is c.in_ok-index.ensures) c.in_ok-index.ensures.flexible

pub measured_selects-loop-index-preserved : goal.measured_selects-loop-index-preserved
measured_selects-loop-index-preserved t c =
    selects_step (meaning_of c.args.names.now) c.args.selects.now c.loop-index.index-index c.loop-index-item.result c.loop-index.done.items _ (c.in_ok-index.index, Some (c.in-Some.how, c.in_ok-other.other)) (omega arith) c.loop-index-item.is
    c.in_ok-push-2.ensures.items c.loop-index.invariant
    (part_meaning (meaning_of c.args.names.now) c.loop-index-item.result c.in-Some.how c.in-Some.e c.in_ok-index.index c.in_ok-other.other c.in-Some.is c.in_ok-index.ensures c.in_ok-other.ensures)
    (c.in_ok-index.ensures.flexible, c.in_ok-other.ensures.flexible)

pub measured_selects-measured-requires : goal.measured_selects-measured-requires
measured_selects-measured-requires t c =
    (falls_by 3 _ c.args.selects.now c.loop-index.index-index t _ c.loop-index-item.result (omega arith) c.loop-index-item.is c.decreases (first_most _ _), tt)

pub measured_links-measured-requires : goal.measured_links-measured-requires
measured_links-measured-requires t c = (falls_one 3 _ _ t (first_most _ _) c.decreases, tt)

pub measured_pairs-measured-requires : goal.measured_pairs-measured-requires
measured_pairs-measured-requires t c = (falls_one 3 _ _ t (second_most _ _) c.decreases, tt)

pub measured_parts-measured-requires : goal.measured_parts-measured-requires
measured_parts-measured-requires t c = (falls_one 3 _ _ t (first_most _ _) c.decreases, tt)

pub measured_links-measured-requires-in-loop-operator : goal.measured_links-measured-requires-in-loop-operator
measured_links-measured-requires-in-loop-operator t c =
    (falls_within 3 _ c.args.links.now c.loop-operator.operator-index t _ _ c.loop-operator-item.result (omega arith) c.loop-operator-item.is (second_most _ _) c.decreases (middle_most 0 _), tt)

pub measured_pairs-measured-requires-in-loop-condition : goal.measured_pairs-measured-requires-in-loop-condition
measured_pairs-measured-requires-in-loop-condition t c =
    (falls_within 3 _ c.args.pairs.now c.loop-condition.condition-index t _ _ c.loop-condition-item.result (omega arith) c.loop-condition-item.is (first_most _ _) c.decreases (first_most _ _), tt)

pub measured_pairs-measured-requires-in-loop-condition-2 : goal.measured_pairs-measured-requires-in-loop-condition-2
measured_pairs-measured-requires-in-loop-condition-2 t c =
    (falls_within 3 _ c.args.pairs.now c.loop-condition.condition-index t _ _ c.loop-condition-item.result (omega arith) c.loop-condition-item.is (first_most _ _) c.decreases (middle_most _ _), tt)

pub measured_parts-measured-requires-in-loop-e : goal.measured_parts-measured-requires-in-loop-e
measured_parts-measured-requires-in-loop-e t c =
    (falls_within 3 _ c.args.rest.now c.loop-e.e-index t _ _ c.e-item.result (omega arith) c.e-item.is (second_most _ _) c.decreases (le_refl _), tt)

pub measured_links-returns : goal.measured_links-returns
measured_links-returns t c =
    links_end (meaning_of c.args.names.now) c.loop-operator.all (meant (meaning_of c.args.names.now) c.args.first.now) c.args.links.now c.loop-operator.operator-index (omega arith) c.loop-operator.invariant.flexible c.loop-operator.invariant.whole
