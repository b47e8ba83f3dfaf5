use Rattle.std.proofs.Common.{refl}
use Rattle.std.proofs.Math.Nat.{le_refl}
use Rattle.vs_widths.specs.Each.{each_none}
use Rattle.vs_widths.specs.Senses.{IsLink, IsTest, IsPair, IsPart}
use Rattle.vs_widths.proofs.FittingLemmas.{each_step, each_all, fits_Signal, fits_Slice, fits_Select, fits_Excerpt, fits_Unary, fits_Repeat, fits_Chain, fits_Choice, fits_Concat, fits_Closed, tests_fitted}
use Rattle.vs_widths.proofs.SelectDepthLemmas.{falls_in}
use Rattle.vs_design.specs.vs_logic4.proofs.Basics.{first_most, second_most}
use Rattle.vs_widths.proofs.fitting.+fitted.Goals as goal

pub fitted-returns-in-Slice : goal.fitted-returns-in-Slice
fitted-returns-in-Slice t c = rw c.in-Slice.is (fits_Slice c.in-Slice.slice c.args.shape.width c.args.shape.signed)

pub fitted-returns-in_ok-low-in-Select : goal.fitted-returns-in_ok-low-in-Select
fitted-returns-in_ok-low-in-Select t c =
    rw c.in-Select.is (fits_Select c.in-Select.selection _ c.in-Select.word c.in-Select.low _ _ c.in_ok-word-in-Select.word c.in_ok-low-in-Select.low c.args.shape.width c.args.shape.signed
    c.deref-in-Select-2.ensures c.deref.ensures c.deref-in-Select.ensures c.in_ok-word-in-Select.ensures c.in_ok-low-in-Select.ensures)

pub fitted-returns-in_ok-links-in-Chain : goal.fitted-returns-in_ok-links-in-Chain
fitted-returns-in_ok-links-in-Chain t c =
    rw c.in-Chain.is (fits_Chain c.in-Chain.first c.in-Chain.links _ c.deref-in-Chain-2.result.now c.in_ok-first-in-Chain.first c.in_ok-links-in-Chain.links c.args.shape.width c.args.shape.signed
    c.deref-in-Chain.ensures c.deref-in-Chain-2.ensures.value c.in_ok-first-in-Chain.ensures c.in_ok-links-in-Chain.ensures)

pub fitted-returns-in_ok-links-in-Tests : goal.fitted-returns-in_ok-links-in-Tests
fitted-returns-in_ok-links-in-Tests t c =
    rw c.in-Tests.is (tests_fitted c.in-Tests.first c.in-Tests.links _ c.deref-in-Tests-2.result.now c.in_ok-first-in-Tests.first c.in_ok-links-in-Tests.links c.args.shape.width c.args.shape.signed c.extended.result
    c.deref-in-Tests.ensures c.deref-in-Tests-2.ensures.value c.in_ok-first-in-Tests.ensures c.in_ok-links-in-Tests.ensures c.extended.ensures)

pub fitted-returns-in_ok-last-in-Choice : goal.fitted-returns-in_ok-last-in-Choice
fitted-returns-in_ok-last-in-Choice t c =
    rw c.in-Choice.is (fits_Choice c.in-Choice.pairs c.in-Choice.last c.deref-in-Choice.result.now _ c.in_ok-pairs-in-Choice.pairs c.in_ok-last-in-Choice.last c.args.shape.width c.args.shape.signed
    c.deref-in-Choice.ensures.value c.deref-in-Choice-2.ensures c.in_ok-pairs-in-Choice.ensures c.in_ok-last-in-Choice.ensures)

pub fitted-returns-in_ok-rest-in-Concat : goal.fitted-returns-in_ok-rest-in-Concat
fitted-returns-in_ok-rest-in-Concat t c =
    rw c.in-Concat.is (fits_Concat c.in-Concat.first c.in-Concat.rest _ c.deref-in-Concat-2.result.now c.in_ok-first-in-Concat.first c.in_ok-rest-in-Concat.rest c.args.shape.width c.args.shape.signed
    c.deref-in-Concat.ensures c.deref-in-Concat-2.ensures.value c.in_ok-first-in-Concat.ensures c.in_ok-rest-in-Concat.ensures)

pub fitted-returns-in_ok-x-in-Closed : goal.fitted-returns-in_ok-x-in-Closed
fitted-returns-in_ok-x-in-Closed t c =
    rw c.in-Closed.is (fits_Closed c.in-Closed.own c.in-Closed.x _ c.in_ok-x-in-Closed.x.value c.resized.result c.args.shape.width c.args.shape.signed c.deref-in-Closed.ensures c.in_ok-x-in-Closed.ensures c.resized.ensures)

pub fitted_links-loop-operator-init : goal.fitted_links-loop-operator-init
fitted_links-loop-operator-init t c = rw c.in_ok-done.ensures.items each_none

pub fitted_links-loop-operator-preserved : goal.fitted_links-loop-operator-preserved
fitted_links-loop-operator-preserved t c =
    each_step (IsLink c.args.shape.width c.args.shape.signed) c.args.links.now c.loop-operator.operator-index c.loop-operator-item.result c.loop-operator.done.items _ _ c.loop-operator-test.true c.loop-operator-item.is c.in_ok-push.ensures.items c.loop-operator.invariant
    (record { operator = refl; width_is = refl; sign_is = refl; fits = c.in_ok-operand.ensures })

pub fitted_tests-loop-link-init : goal.fitted_tests-loop-link-init
fitted_tests-loop-link-init t c = rw c.in_ok-done.ensures.items each_none

pub fitted_tests-loop-link-preserved : goal.fitted_tests-loop-link-preserved
fitted_tests-loop-link-preserved t c =
    each_step IsTest c.args.links.now c.loop-link.link-index c.loop-link-item.result c.loop-link.done.items _ _ c.loop-link-test.true c.loop-link-item.is c.in_ok-push.ensures.items c.loop-link.invariant
    (record { link = refl; fits = c.in_ok-operand.ensures })

pub fitted_pairs-loop-condition-init : goal.fitted_pairs-loop-condition-init
fitted_pairs-loop-condition-init t c = rw c.in_ok-done.ensures.items each_none

pub fitted_pairs-loop-condition-preserved : goal.fitted_pairs-loop-condition-preserved
fitted_pairs-loop-condition-preserved t c =
    each_step (IsPair c.args.shape.width c.args.shape.signed) c.args.pairs.now c.loop-condition.condition-index c.loop-condition-item.result c.loop-condition.done.items _ _ c.loop-condition-test.true c.loop-condition-item.is c.in_ok-push.ensures.items c.loop-condition.invariant
    (record { condition = c.in_ok-condition.ensures; value = c.in_ok-value.ensures })

pub fitted_parts-loop-part-init : goal.fitted_parts-loop-part-init
fitted_parts-loop-part-init t c = rw c.in_ok-done.ensures.items each_none

pub fitted_parts-loop-part-preserved : goal.fitted_parts-loop-part-preserved
fitted_parts-loop-part-preserved t c =
    each_step (IsPart c.args.shape.width c.args.shape.signed) c.args.parts.now c.loop-part.part-index c.part-item.result c.loop-part.done.items _ _ c.loop-part-test.true c.part-item.is c.in_ok-push.ensures.items c.loop-part.invariant c.in_ok-part.ensures

pub fitted-returns-in-Signal : goal.fitted-returns-in-Signal
fitted-returns-in-Signal t c = rw c.in-Signal.is (fits_Signal c.in-Signal.signal _ c.args.shape.width c.args.shape.signed refl refl refl)

pub fitted-returns-in_ok-low-in-Excerpt : goal.fitted-returns-in_ok-low-in-Excerpt
fitted-returns-in_ok-low-in-Excerpt t c =
    rw c.in-Excerpt.is (fits_Excerpt c.in-Excerpt.excerpt _ c.in-Excerpt.low _ c.in_ok-low-in-Excerpt.low c.args.shape.width c.args.shape.signed c.deref-in-Excerpt-2.ensures c.deref-in-Excerpt.ensures c.in_ok-low-in-Excerpt.ensures)

pub fitted-returns-in_ok-x-in-Unary : goal.fitted-returns-in_ok-x-in-Unary
fitted-returns-in_ok-x-in-Unary t c = rw c.in-Unary.is (fits_Unary c.in-Unary.operator c.in-Unary.x _ c.in_ok-x-in-Unary.x c.args.shape.width c.args.shape.signed c.deref-in-Unary.ensures c.in_ok-x-in-Unary.ensures)

pub fitted-returns-in_ok-x-in-Repeat : goal.fitted-returns-in_ok-x-in-Repeat
fitted-returns-in_ok-x-in-Repeat t c = rw c.in-Repeat.is (fits_Repeat c.in-Repeat.count c.in-Repeat.x _ c.in_ok-x-in-Repeat.x c.args.shape.width c.args.shape.signed c.deref-in-Repeat.ensures c.in_ok-x-in-Repeat.ensures)

pub fitted_links-fitted-requires : goal.fitted_links-fitted-requires
fitted_links-fitted-requires t c = (falls_in _ c.args.links.now c.loop-operator.operator-index t _ c.loop-operator-item.result c.loop-operator-test.true c.loop-operator-item.is c.decreases (second_most 0 _), tt)

pub fitted_links-returns : goal.fitted_links-returns
fitted_links-returns t c = each_all (IsLink c.args.shape.width c.args.shape.signed) c.args.links.now c.loop-operator.operator-index _ c.loop-operator.invariant c.loop-operator-test.false

pub fitted_tests-fitted-requires : goal.fitted_tests-fitted-requires
fitted_tests-fitted-requires t c = (falls_in _ c.args.links.now c.loop-link.link-index t _ c.loop-link-item.result c.loop-link-test.true c.loop-link-item.is c.decreases (second_most 0 _), tt)

pub fitted_tests-returns : goal.fitted_tests-returns
fitted_tests-returns t c = each_all IsTest c.args.links.now c.loop-link.link-index _ c.loop-link.invariant c.loop-link-test.false

pub fitted_pairs-fitted-requires : goal.fitted_pairs-fitted-requires
fitted_pairs-fitted-requires t c = (falls_in _ c.args.pairs.now c.loop-condition.condition-index t _ c.loop-condition-item.result c.loop-condition-test.true c.loop-condition-item.is c.decreases (first_most _ _), tt)

pub fitted_pairs-fitted-requires-in-loop-condition : goal.fitted_pairs-fitted-requires-in-loop-condition
fitted_pairs-fitted-requires-in-loop-condition t c =
    (falls_in _ c.args.pairs.now c.loop-condition.condition-index t _ c.loop-condition-item.result c.loop-condition-test.true c.loop-condition-item.is c.decreases (second_most _ _), tt)

pub fitted_pairs-returns : goal.fitted_pairs-returns
fitted_pairs-returns t c = each_all (IsPair c.args.shape.width c.args.shape.signed) c.args.pairs.now c.loop-condition.condition-index _ c.loop-condition.invariant c.loop-condition-test.false

pub fitted_parts-fitted-requires : goal.fitted_parts-fitted-requires
fitted_parts-fitted-requires t c = (falls_in _ c.args.parts.now c.loop-part.part-index t _ c.part-item.result c.loop-part-test.true c.part-item.is c.decreases (le_refl _), tt)

pub fitted_parts-returns : goal.fitted_parts-returns
fitted_parts-returns t c = each_all (IsPart c.args.shape.width c.args.shape.signed) c.args.parts.now c.loop-part.part-index _ c.loop-part.invariant c.loop-part-test.false
