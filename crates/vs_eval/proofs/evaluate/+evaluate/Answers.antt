use Rattle.std.proofs.Common.{◌∙◌, refl, sym, ap, ap₂, map, take}
use Rattle.std.proofs.lemmas.Simd.{map-map}
use Rattle.vs_design.specs.vs_logic4.specs.Comparisons.{truth}
use Rattle.vs_design.specs.vs_logic4.specs.Parts.{concatenation}
use Rattle.vs_eval.specs.Values.{concatenated, value_of}
use Rattle.vs_eval.proofs.ValueLemmas.{went_on, went_through}
use Rattle.vs_eval.specs.declared.node.Node.{Node}
use Rattle.vs_eval.specs.declared.node.Planes.{Planes}
use Rattle.vs_eval.specs.declared.node.Size.{Size}
use Rattle.vs_eval.specs.declared.node.Node.TheVariants.{rolls-Number, rolls-Word, rolls-Bits, rolls-Element, rolls-Bit, rolls-Indexed, rolls-Ranged, rolls-Unary, rolls-Two, rolls-Chain, rolls-If, rolls-Resized, rolls-Concat, rolls-Repeat, rolls-Other}
use Rattle.vs_eval.specs.declared.node.Node.TheOpen as layer
use Rattle.vs_eval.specs.Nodes.{planes_in, element_planes, bit_planes, indexed_planes, ranged_planes, unary_planes, combined, chained, chosen, changed_planes, joined, repeated}
use Rattle.vs_eval.specs.PlanesOf.{digits_of, planes_of}
use Rattle.vs_eval.proofs.NodeLemmas.{node_layer}
use Rattle.vs_eval.proofs.evaluate.+evaluate.Goals as goal

pub planes_at-returns-in-Number : goal.planes_at-returns-in-Number
planes_at-returns-in-Number t c =
    sym (node_layer c.args.node.now c.args.store.now c.args.time (layer.Number c.in-Number.p) (rolls-Number c.in-Number.p ∙ sym c.in-Number.is))

pub planes_at-returns-in-Word : goal.planes_at-returns-in-Word
planes_at-returns-in-Word t c =
    c.word.ensures ∙ sym (node_layer c.args.node.now c.args.store.now c.args.time (layer.Word c.in-Word.number) (rolls-Word c.in-Word.number ∙ sym c.in-Word.is))

pub quick_planes-returns-in-Number : goal.quick_planes-returns-in-Number
quick_planes-returns-in-Number t c =
    sym (node_layer c.args.node.now c.args.store.now c.args.time (layer.Number c.in-Number.p) (rolls-Number c.in-Number.p ∙ sym c.in-Number.is))

pub quick_planes-returns-in-Word : goal.quick_planes-returns-in-Word
quick_planes-returns-in-Word t c =
    c.word.ensures ∙ sym (node_layer c.args.node.now c.args.store.now c.args.time (layer.Word c.in-Word.number) (rolls-Word c.in-Word.number ∙ sym c.in-Word.is))

pub quick_planes-returns-in_default : goal.quick_planes-returns-in_default
quick_planes-returns-in_default t c =
    c.planes_at-made.ensures

pub planes_at-returns-in-Bits : goal.planes_at-returns-in-Bits
planes_at-returns-in-Bits t c =
    c.bits.ensures ∙ sym (node_layer c.args.node.now c.args.store.now c.args.time (layer.Bits c.in-Bits.field) (rolls-Bits c.in-Bits.field ∙ sym c.in-Bits.is))

pub planes_at-returns-in-Element : goal.planes_at-returns-in-Element
planes_at-returns-in-Element t c =
    c.element.ensures ∙ ap (λ p. element_planes c.in-Element.array p c.args.store.now) (c.quick_planes.ensures ∙ ap (λ x. planes_in x c.args.store.now c.args.time) c.deref.ensures)
    ∙ sym (node_layer c.args.node.now c.args.store.now c.args.time (layer.Element c.in-Element.array c.in-Element.x) (rolls-Element c.in-Element.array c.in-Element.x ∙ sym c.in-Element.is))

pub planes_at-returns-in-Bit : goal.planes_at-returns-in-Bit
planes_at-returns-in-Bit t c =
    c.bit.ensures ∙ ap (λ p. bit_planes c.in-Bit.array p c.args.store.now) (c.quick_planes-in-Bit.ensures ∙ ap (λ x. planes_in x c.args.store.now c.args.time) c.deref-in-Bit.ensures)
    ∙ sym (node_layer c.args.node.now c.args.store.now c.args.time (layer.Bit c.in-Bit.array c.in-Bit.x) (rolls-Bit c.in-Bit.array c.in-Bit.x ∙ sym c.in-Bit.is))

pub planes_at-returns-in-Indexed : goal.planes_at-returns-in-Indexed
planes_at-returns-in-Indexed t c =
    c.indexed.ensures
    ∙ ap₂ (λ i p. indexed_planes c.in-Indexed.array i p c.args.store.now) c.deref-in-Indexed.ensures (c.quick_planes-in-Indexed.ensures ∙ ap (λ x. planes_in x c.args.store.now c.args.time) c.deref-in-Indexed-2.ensures)
    ∙ sym (node_layer c.args.node.now c.args.store.now c.args.time (layer.Indexed c.in-Indexed.array c.in-Indexed.index c.in-Indexed.x) (rolls-Indexed c.in-Indexed.array c.in-Indexed.index c.in-Indexed.x ∙ sym c.in-Indexed.is))

pub planes_at-returns-in-Ranged : goal.planes_at-returns-in-Ranged
planes_at-returns-in-Ranged t c =
    c.ranged.ensures
    ∙ ap₂ (λ r p. ranged_planes c.in-Ranged.array r p c.args.store.now) c.deref-in-Ranged.ensures (c.quick_planes-in-Ranged.ensures ∙ ap (λ x. planes_in x c.args.store.now c.args.time) c.deref-in-Ranged-2.ensures)
    ∙ sym (node_layer c.args.node.now c.args.store.now c.args.time (layer.Ranged c.in-Ranged.array c.in-Ranged.range c.in-Ranged.x) (rolls-Ranged c.in-Ranged.array c.in-Ranged.range c.in-Ranged.x ∙ sym c.in-Ranged.is))

pub planes_at-returns-in-Unary : goal.planes_at-returns-in-Unary
planes_at-returns-in-Unary t c =
    c.unary.ensures ∙ ap (unary_planes c.in-Unary.operator c.in-Unary.size) (c.quick_planes-in-Unary.ensures ∙ ap (λ x. planes_in x c.args.store.now c.args.time) c.deref-in-Unary.ensures)
    ∙ sym (node_layer c.args.node.now c.args.store.now c.args.time (layer.Unary c.in-Unary.operator c.in-Unary.size c.in-Unary.x) (rolls-Unary c.in-Unary.operator c.in-Unary.size c.in-Unary.x ∙ sym c.in-Unary.is))

pub planes_at-returns-in-Two : goal.planes_at-returns-in-Two
planes_at-returns-in-Two t c =
    c.combined.ensures
    ∙ ap₂ (λ p q. combined p (c.in-Two.sides, q)) (c.quick_planes-left.ensures ∙ ap (λ x. planes_in x c.args.store.now c.args.time) c.deref-in-Two.ensures) (c.quick_planes-in-Two.ensures ∙ ap (λ x. planes_in x c.args.store.now c.args.time) c.deref-in-Two-2.ensures)
    ∙ sym (node_layer c.args.node.now c.args.store.now c.args.time (layer.Two c.in-Two.sides c.in-Two.x c.in-Two.y) (rolls-Two c.in-Two.sides c.in-Two.x c.in-Two.y ∙ sym c.in-Two.is))

pub planes_at-returns-in-Chain : goal.planes_at-returns-in-Chain
planes_at-returns-in-Chain t c =
    c.chain.ensures
    ∙ ap₂ (λ p ls. chained p (map (λ l. (l.0, planes_in l.1 c.args.store.now c.args.time)) ls)) (c.quick_planes-in-Chain.ensures ∙ ap (λ x. planes_in x c.args.store.now c.args.time) c.deref-in-Chain.ensures) c.deref-in-Chain-2.ensures.value
    ∙ sym (node_layer c.args.node.now c.args.store.now c.args.time (layer.Chain c.in-Chain.x c.in-Chain.links) (rolls-Chain c.in-Chain.x c.in-Chain.links ∙ sym c.in-Chain.is))

pub planes_at-returns-in-If : goal.planes_at-returns-in-If
planes_at-returns-in-If t c =
    c.choice.ensures
    ∙ ap₂ (λ (x y : Node). chosen c.truth-truth.result c.in-If.width (planes_in x c.args.store.now c.args.time) (planes_in y c.args.store.now c.args.time)) c.deref-in-If-2.ensures c.deref-in-If-3.ensures
    ∙ ap (λ d. chosen d c.in-If.width (planes_in c.in-If.x.value c.args.store.now c.args.time) (planes_in c.in-If.y.value c.args.store.now c.args.time))
    (c.truth-truth.ensures ∙ ap (λ p. truth (digits_of c.in-If.size.width p)) (c.quick_planes-in-If.ensures ∙ ap (λ x. planes_in x c.args.store.now c.args.time) c.deref-in-If.ensures))
    ∙ sym (node_layer c.args.node.now c.args.store.now c.args.time (layer.If c.in-If.size c.in-If.width c.in-If.c c.in-If.x c.in-If.y) (rolls-If c.in-If.size c.in-If.width c.in-If.c c.in-If.x c.in-If.y ∙ sym c.in-If.is))

pub planes_at-returns-in-Resized : goal.planes_at-returns-in-Resized
planes_at-returns-in-Resized t c =
    c.resized.ensures ∙ ap (changed_planes c.in-Resized.change) (c.quick_planes-in-Resized.ensures ∙ ap (λ x. planes_in x c.args.store.now c.args.time) c.deref-in-Resized.ensures)
    ∙ sym (node_layer c.args.node.now c.args.store.now c.args.time (layer.Resized c.in-Resized.change c.in-Resized.x) (rolls-Resized c.in-Resized.change c.in-Resized.x ∙ sym c.in-Resized.is))

pub planes_at-returns-in-Concat : goal.planes_at-returns-in-Concat
planes_at-returns-in-Concat t c =
    c.joined.ensures
    ∙ ap₂ (λ p ps. joined c.in-Concat.size p (map (λ q. (q.0, planes_in q.1 c.args.store.now c.args.time)) ps)) (c.quick_planes-in-Concat.ensures ∙ ap (λ x. planes_in x c.args.store.now c.args.time) c.deref-in-Concat.ensures) c.deref-in-Concat-2.ensures.value
    ∙ sym (node_layer c.args.node.now c.args.store.now c.args.time (layer.Concat c.in-Concat.size c.in-Concat.x c.in-Concat.parts) (rolls-Concat c.in-Concat.size c.in-Concat.x c.in-Concat.parts ∙ sym c.in-Concat.is))

pub planes_at-returns-in-Repeat : goal.planes_at-returns-in-Repeat
planes_at-returns-in-Repeat t c =
    c.repeated.ensures ∙ ap (repeated c.in-Repeat.count c.in-Repeat.size) (c.quick_planes-in-Repeat.ensures ∙ ap (λ x. planes_in x c.args.store.now c.args.time) c.deref-in-Repeat.ensures)
    ∙ sym (node_layer c.args.node.now c.args.store.now c.args.time (layer.Repeat c.in-Repeat.count c.in-Repeat.size c.in-Repeat.x) (rolls-Repeat c.in-Repeat.count c.in-Repeat.size c.in-Repeat.x ∙ sym c.in-Repeat.is))

pub planes_at-returns-in-Other : goal.planes_at-returns-in-Other
planes_at-returns-in-Other t c =
    c.other.ensures ∙ ap (λ x. planes_of (value_of x c.args.store.now c.args.time)) c.deref-in-Other.ensures
    ∙ sym (node_layer c.args.node.now c.args.store.now c.args.time (layer.Other c.in-Other.e) (rolls-Other c.in-Other.e ∙ sym c.in-Other.is))

pub chain-loop-sides-preserved : goal.chain-loop-sides-preserved
chain-loop-sides-preserved t c =
    went_on chained combined (λ l. (l.0, planes_in l.1 c.args.store.now c.args.time)) (λ p l ls. refl) c.args.links.now c.loop-sides.sides-index c.loop-sides-item.result c.loop-sides.all c.combined-all.result _
    c.loop-sides-test.true c.loop-sides-item.is (c.combined-all.ensures ∙ ap (λ p. combined c.loop-sides.all (c.loop-sides-item.result.0, p)) c.quick_planes.ensures) c.loop-sides.invariant

pub chain-returns : goal.chain-returns
chain-returns t c =
    went_through chained (λ l. (l.0, planes_in l.1 c.args.store.now c.args.time)) (λ p. refl) c.args.links.now c.loop-sides.sides-index c.loop-sides.all _ c.loop-sides-test.false c.loop-sides.invariant

pub joined-loop-size-preserved : goal.joined-loop-size-preserved
joined-loop-size-preserved t c =
    went_on concatenated (λ high low. take 64 (concatenation high low)) (λ q. digits_of q.0.width (planes_in q.1 c.args.store.now c.args.time)) (λ p l ls. refl) c.args.parts.now c.loop-size.size-index c.loop-size-item.result c.loop-size.all c.join-all.result _
    c.loop-size-test.true c.loop-size-item.is (c.join-all.ensures ∙ ap (λ ds. take 64 (concatenation c.loop-size.all ds)) (c.vector.ensures ∙ ap (digits_of c.loop-size-item.result.0.width) c.quick_planes.ensures)) c.loop-size.invariant

pub joined-returns : goal.joined-returns
joined-returns t c =
    c.planes.ensures
    ∙ ap planes_of (went_through concatenated (λ q. digits_of q.0.width (planes_in q.1 c.args.store.now c.args.time)) (λ p. refl) c.args.parts.now c.loop-size.size-index c.loop-size.all _ c.loop-size-test.false c.loop-size.invariant)
    ∙ ap (λ ds. planes_of (concatenated (digits_of c.args.size.width c.args.first) ds))
    (sym (map-map (λ (p : Size × Planes). digits_of p.0.width p.1) (λ (q : Size × Node). (q.0, planes_in q.1 c.args.store.now c.args.time)) c.args.parts.now))
