use Rattle.std.proofs.Common.{◌≡◌, length, drop, take, sym, ◌∙◌, ap, subst, arith}
use Rattle.vs_design.specs.Selects.{place_of, word_place}
use Rattle.vs_design.specs.Stores.{word_of}
use Rattle.vs_eval.specs.Values.{chained, chosen, concatenated, linked, value_of}
use Rattle.vs_eval.specs.declared.node.Node.{Node}
use Rattle.vs_eval.specs.declared.node.Size.{Size}
use Rattle.vs_eval.specs.Copies.{links_of, pairs_of, parts_of}
use Rattle.vs_eval.specs.Meant.{IsMeant, Means, Values}
use Rattle.vs_eval.proofs.CopyLemmas.{kept_whole}
use Rattle.vs_eval.proofs.LayerLemmas.{number_law, signal_law, slice_law, select_law, excerpt_long, unary_meant, chain_meant, choice_meant, concat_meant, repeat_meant, resized_long, resized_meant}
use Rattle.vs_eval.proofs.MeantLemmas.{linked_long}
use Rattle.vs_eval.proofs.OperandLemmas.{AreJoined, AreLinked, answered, all_linked, all_parts, if_means, link_step, none_chosen, none_joined, none_linked, one_linked, pair_before, pair_means, part_step}
use Rattle.vs_eval.proofs.WordLemmas.{bits_long, part_of_word, whole_word}
use Rattle.vs_eval.proofs.resolve.+resolve.Goals as goal

-- ---- an expression

pub resolve-returns-in-Number : goal.resolve-returns-in-Number
resolve-returns-in-Number t c =
    c.literal.ensures c.args.design.now.signals (λ store time. value_of c.args.e.now store time) (number_law c.args.e.now c.in-Number.digits c.in-Number.is)

pub resolve-returns-in_ok-whole-in-Signal : goal.resolve-returns-in_ok-whole-in-Signal
resolve-returns-in_ok-whole-in-Signal t c = c.in_ok-whole-in-Signal.ensures (signal_law c.args.e.now c.in-Signal.o c.in-Signal.is)

pub resolve-returns-in_ok-slice-in-Slice : goal.resolve-returns-in_ok-slice-in-Slice
resolve-returns-in_ok-slice-in-Slice t c = c.in_ok-slice-in-Slice.ensures (slice_law c.args.e.now c.in-Slice.s c.in-Slice.is)

pub resolve-returns-in_ok-select-in-Select : goal.resolve-returns-in_ok-select-in-Select
resolve-returns-in_ok-select-in-Select t c =
    c.in_ok-select-in-Select.ensures
    (select_law c.args.e.now c.in-Select.s c.in-Select.word c.in-Select.low c.deref.result.now c.deref-in-Select.result.now c.in-Select.is c.deref.ensures c.deref-in-Select.ensures)

pub resolve-returns-in_ok-other-in-Excerpt : goal.resolve-returns-in_ok-other-in-Excerpt
resolve-returns-in_ok-other-in-Excerpt t c =
    c.in_ok-other-in-Excerpt.ensures c.args.design.now.signals (excerpt_long c.args.design.now.signals c.args.e.now c.in-Excerpt.s c.in-Excerpt.field-1 c.in-Excerpt.is)

pub resolve-returns-in_ok-unary-in-Some : goal.resolve-returns-in_ok-unary-in-Some
resolve-returns-in_ok-unary-in-Some t c =
    unary_meant c.args.design.now.signals c.args.e.now c.in-Unary.operator c.in-Unary.x c.deref-in-Unary.result.now
    c.in_ok-unary-in-Some.field-0.0 c.in_ok-unary-in-Some.field-0.1.width c.in-Unary.is c.deref-in-Unary.ensures
    (c.in_ok-unary-in-Some.ensures c.args.design.now.signals (λ store time. value_of c.deref-in-Unary.result.now store time) (rw c.in-Some.is at c.in_ok-x-in-Unary.ensures))

pub resolve-returns-in-Some-2 : goal.resolve-returns-in-Some-2
resolve-returns-in-Some-2 t c =
    let signals = c.args.design.now.signals in
    let first = c.deref-in-Chain.result.now in
    let links = c.deref-in-Some-2.result.now in
    answered
    (λ (r : Node × Size). (values : Values) → Means signals values c.in-Some-2.x.0 c.in-Some-2.x.1.width → Means signals (λ store time. chained (values store time) (links_of links store time)) r.0 r.1.width)
    (λ (r : Node × Size). IsMeant signals c.args.e.now r.0 r.1.width)
    c.chain.result
    (λ (r : Node × Size) made.
    chain_meant signals c.args.e.now c.in-Chain.x c.in-Chain.links first links r.0 r.1.width c.in-Chain.is c.deref-in-Chain.ensures c.deref-in-Some-2.ensures.value
    (made (λ store time. value_of first store time) (rw c.in-Some-2.is at c.in_ok-x-in-Chain.ensures)))
    c.chain.ensures

pub resolve-returns-in-Some-3 : goal.resolve-returns-in-Some-3
resolve-returns-in-Some-3 t c =
    let signals = c.args.design.now.signals in
    let last = c.deref-in-Choice.result.now in
    let pairs = c.deref-in-Some-3.result.now in
    answered
    (λ (r : Node × Size). (values : Values) → Means signals values c.in-Some-3.last.0 c.in-Some-3.last.1.width → Means signals (λ store time. chosen (pairs_of pairs store time) (values store time)) r.0 r.1.width)
    (λ (r : Node × Size). IsMeant signals c.args.e.now r.0 r.1.width)
    c.choice.result
    (λ (r : Node × Size) made.
    choice_meant signals c.args.e.now c.in-Choice.pairs c.in-Choice.last last pairs r.0 r.1.width c.in-Choice.is c.deref-in-Choice.ensures c.deref-in-Some-3.ensures.value
    (made (λ store time. value_of last store time) (rw c.in-Some-3.is at c.in_ok-last-in-Choice.ensures)))
    c.choice.ensures

pub resolve-returns-in-Some-4 : goal.resolve-returns-in-Some-4
resolve-returns-in-Some-4 t c =
    let signals = c.args.design.now.signals in
    let first = c.deref-in-Concat.result.now in
    let others = c.deref-in-Some-4.result.now in
    answered
    (λ (r : Node × Size). (values : Values) → Means signals values c.in-Some-4.x.0 c.in-Some-4.x.1.width → Means signals (λ store time. concatenated (values store time) (parts_of others store time)) r.0 r.1.width)
    (λ (r : Node × Size). IsMeant signals c.args.e.now r.0 r.1.width)
    c.concatenated.result
    (λ (r : Node × Size) made.
    concat_meant signals c.args.e.now c.in-Concat.x c.in-Concat.others first others r.0 r.1.width c.in-Concat.is c.deref-in-Concat.ensures c.deref-in-Some-4.ensures.value
    (made (λ store time. value_of first store time) (rw c.in-Some-4.is at c.in_ok-x-in-Concat.ensures)))
    c.concatenated.ensures

pub resolve-returns-in_ok-repeated-in-Some-5 : goal.resolve-returns-in_ok-repeated-in-Some-5
resolve-returns-in_ok-repeated-in-Some-5 t c =
    repeat_meant c.args.design.now.signals c.args.e.now c.in-Repeat.count c.in-Repeat.x c.deref-in-Repeat.result.now
    c.in_ok-repeated-in-Some-5.field-0.0 c.in_ok-repeated-in-Some-5.field-0.1.width c.in-Repeat.is c.deref-in-Repeat.ensures
    (c.in_ok-repeated-in-Some-5.ensures c.args.design.now.signals (λ store time. value_of c.deref-in-Repeat.result.now store time) (rw c.in-Some-5.is at c.in_ok-x-in-Repeat.ensures))

pub resolve-returns-in_ok-brought-in-Some-6 : goal.resolve-returns-in_ok-brought-in-Some-6
resolve-returns-in_ok-brought-in-Some-6 t c =
    resized_meant c.args.design.now.signals c.args.e.now c.in-Resized.size c.in-Resized.x c.deref-in-Resized.result.now
    c.in_ok-brought-in-Some-6.field-0.0 c.in_ok-brought-in-Some-6.field-0.1.width c.in-Resized.is c.deref-in-Resized.ensures
    (c.in_ok-brought-in-Some-6.ensures c.args.design.now.signals (λ store time. value_of c.deref-in-Resized.result.now store time) (rw c.in-Some-6.is at c.in_ok-x-in-Resized.ensures))

pub resolve-returns-in_ok-other-in-None-6 : goal.resolve-returns-in_ok-other-in-None-6
resolve-returns-in_ok-other-in-None-6 t c =
    c.in_ok-other-in-None-6.ensures c.args.design.now.signals (resized_long c.args.design.now.signals c.args.e.now c.in-Resized.size c.in-Resized.x c.in-Resized.is)

-- ---- bits that two indices choose

pub select-returns-in-Some-2 : goal.select-returns-in-Some-2
select-returns-in-Some-2 t c = λ law.
    let signals = c.args.design.now.signals in
    let word = c.args.word.now in
    whole_word signals c.args.s c.in-Some.array c.args.e.now word c.args.low.now law c.in_ok-node.node c.in-Some.ensures
    (c.in_ok-node.ensures signals c.args.s.signal (λ store time. value_of word store time) c.in-Some.ensures.words (rw c.in-Some-2.is at c.in_ok-x.ensures))

pub select-returns-in-Some-3 : goal.select-returns-in-Some-3
select-returns-in-Some-3 t c = λ law.
    let signals = c.args.design.now.signals in
    let low = c.args.low.now in
    part_of_word signals c.args.s c.in-Some-bits_of.array c.args.e.now c.args.word.now low law c.in_ok-node-2.node c.in-Some-bits_of.ensures
    (c.in_ok-node-2.ensures signals c.args.s.signal (λ store time. value_of low store time) c.in-Some-bits_of.ensures.words (rw c.in-Some-3.is at c.in_ok-x-2.ensures))

pub select-returns : goal.select-returns
select-returns t c =
    kept_whole c.args.e.now c.args.s.width c.args.design.now.signals _ c.other.result
    (λ law store time is.
    ap length (law store time)
    ∙ bits_long (place_of c.args.s.bits c.args.s.width (value_of c.args.low.now store time)) c.args.s.width (word_of store c.args.s.signal (word_place c.args.s.words (value_of c.args.word.now store time))))
    c.other.ensures

-- ---- operators between operands

pub pair-returns : goal.pair-returns
pair-returns t c = λ values m.
    pair_means c.args.design.now.signals values c.args.link c.args.e.now c.sides-sides.result c.args.first.1.width c.in-Some.right.width c.linked_size.result.width
    c.in_ok-new.field-0 c.in_ok-new-2.field-0 c.args.first.0 c.in-Some.y c.in_ok-new.ensures.ok c.in_ok-new-2.ensures.ok
    c.sides-sides.ensures c.linked_size.ensures (rw c.in-Some.is at c.in_ok-y.ensures) m

pub chain-returns-then-links-eq1 : goal.chain-returns-then-links-eq1
chain-returns-then-links-eq1 t c =
    let signals = c.args.design.now.signals in
    let links = c.args.links.now in
    let first = c.args.first in
    let x = c.index-links-0.result in
    let long : length c.args.links.now ≡ 1 = omega arith in
    answered
    (λ (r : Node × Size). (values : Values) → Means signals values first.0 first.1.width → Means signals (λ store time. linked (values store time) (x.0, value_of x.1 store time)) r.0 r.1.width)
    (λ (r : Node × Size). (values : Values) → Means signals values first.0 first.1.width → Means signals (λ store time. chained (values store time) (links_of links store time)) r.0 r.1.width)
    c.pair.result
    (λ (r : Node × Size) made values m. one_linked signals values first.0 links x r.0 r.1.width long c.index-links-0.is (made values m))
    c.pair.ensures

pub chain-loop-link-init : goal.chain-loop-link-init
chain-loop-link-init t c = λ values m.
    subst (λ z. AreLinked c.args.design.now.signals values c.args.first.0 (take 0 c.args.links.now) z c.args.first.1.width) (sym c.in_ok-all.ensures.items)
    (none_linked c.args.design.now.signals values c.args.first.0 c.args.first.1.width m)

pub chain-loop-link-preserved : goal.chain-loop-link-preserved
chain-loop-link-preserved t c = λ values m.
    link_step c.args.design.now.signals values c.args.first.0 c.args.links.now c.loop-link.link-index c.loop-link-item.result c.loop-link.all.items c.push.new.self.items
    c.sides.result c.in-Some.y c.loop-link.size.width c.in-Some.right.width c.linked_size-size.result.width c.loop-link-test.true c.loop-link-item.is c.in_ok-push.ensures.items c.sides.ensures
    (rw c.in-Some.is at c.in_ok-y.ensures) (λ l r. linked_long c.loop-link-item.result.0 l r ∙ sym c.linked_size-size.ensures) (c.loop-link.invariant values m)

pub chain-returns : goal.chain-returns
chain-returns t c = λ values m.
    all_linked c.args.design.now.signals values c.args.first.0 c.args.links.now c.loop-link.link-index c.loop-link.all c.loop-link.size.width c.in_ok-new.field-0
    c.loop-link-test.false c.in_ok-new.ensures.ok (c.loop-link.invariant values m)

-- ---- choices

pub alternative-returns : goal.alternative-returns
alternative-returns t c = λ values m.
    let signals = c.args.design.now.signals in
    let same : c.in-Some-2.own.width ≡ c.args.last.1.width = omega arith in
    if_means signals values c.args.condition.now c.args.e.now c.in-Some.truth c.args.last.1 c.in_ok-c-2.c c.in_ok-x-2.x c.in_ok-new.field-0 c.in-Some.c c.in-Some-2.x c.args.last.0
    c.in_ok-c-2.ensures.ok c.in_ok-x-2.ensures.ok c.in_ok-new.ensures.ok
    (rw c.in-Some.is at c.in_ok-c.ensures) (subst (IsMeant signals c.args.e.now c.in-Some-2.x) same (rw c.in-Some-2.is at c.in_ok-x.ensures)) m

pub choice-loop-i-init : goal.choice-loop-i-init
choice-loop-i-init t c = λ values m.
    none_chosen c.args.design.now.signals values c.args.pairs.now (length c.args.pairs.now) c.args.last.0 c.args.last.1.width (omega arith) m

pub choice-loop-i-preserved : goal.choice-loop-i-preserved
choice-loop-i-preserved t c = λ values m.
    let made = rw c.in-Some.is at c.in_ok-made.ensures in
    pair_before c.args.design.now.signals values c.args.pairs.now c.loop-i.i c.index-pairs-i.result c.in-Some.made c.args.last.1.width c.loop-i-test.true c.loop-i.auto.i c.index-pairs-i.is
    (made (λ store time. chosen (pairs_of (drop c.loop-i.i c.args.pairs.now) store time) (values store time)) (c.loop-i.invariant values m))

pub choice-returns : goal.choice-returns
choice-returns t c = λ values m.
    let none : c.loop-i.i ≡ 0 = omega arith in
    subst
    (λ i. Means c.args.design.now.signals (λ store time. chosen (pairs_of (drop i c.args.pairs.now) store time) (values store time)) c.loop-i.node c.args.last.1.width)
    none (c.loop-i.invariant values m)

-- ---- concatenations

pub concatenated-loop-part-init : goal.concatenated-loop-part-init
concatenated-loop-part-init t c = λ values m.
    subst (λ z. AreJoined c.args.design.now.signals values (take 0 c.args.others.now) z c.args.first.1.width) (sym c.in_ok-parts.ensures.items)
    (none_joined c.args.design.now.signals values c.args.first.1.width m.sized)

pub concatenated-loop-part-preserved : goal.concatenated-loop-part-preserved
concatenated-loop-part-preserved t c = λ values m.
    part_step c.args.design.now.signals values c.args.others.now c.loop-part.part-index c.part-item.result c.loop-part.parts.items c.push.new.self.items
    c.in-Some.y c.in-Some.below c.loop-part.size.width c.joined_size-size.result.width c.loop-part-test.true c.part-item.is c.in_ok-push.ensures.items c.joined_size-size.ensures
    (rw c.in-Some.is at c.in_ok-y.ensures) (c.loop-part.invariant values m)

pub concatenated-returns : goal.concatenated-returns
concatenated-returns t c = λ values m.
    all_parts c.args.design.now.signals values c.args.first.0 c.args.first.1 c.args.others.now c.loop-part.part-index c.loop-part.parts c.loop-part.size.width c.in_ok-new.field-0
    c.loop-part-test.false c.in_ok-new.ensures.ok m (c.loop-part.invariant values m)
