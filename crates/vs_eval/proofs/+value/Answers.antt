use Rattle.std.proofs.Common.{◌∙◌, refl, sym, ap, ap₂, map, take}
use Rattle.vs_design.specs.vs_logic4.specs.Comparisons.{truth}
use Rattle.vs_design.specs.vs_logic4.specs.Operators.{unary}
use Rattle.vs_design.specs.vs_logic4.specs.Parts.{concatenation, replication}
use Rattle.vs_design.specs.vs_logic4.specs.Vectors.{resized}
use Rattle.vs_design.specs.declared.expression.Typed.TheVariants.{rolls-Number, rolls-Signal, rolls-Slice, rolls-Select, rolls-Excerpt, rolls-Unary, rolls-Chain, rolls-Choice, rolls-Concat, rolls-Repeat, rolls-Resized}
use Rattle.vs_design.specs.declared.expression.Typed.TheOpen as layer
use Rattle.vs_eval.specs.Values.{selection_value, excerpt_value, linked, chained, picked, chosen, concatenated, value_of}
use Rattle.vs_eval.proofs.ValueLemmas.{value_layer, went_on, went_through, chosen_before}
use Rattle.vs_eval.proofs.+value.Goals as goal

pub value-returns-in-Number : goal.value-returns-in-Number
value-returns-in-Number t c =
    sym (value_layer c.args.e.now c.args.store.now c.args.time (layer.Number c.in-Number.digits) (rolls-Number c.in-Number.digits ∙ sym c.in-Number.is))

pub value-returns-in-Signal : goal.value-returns-in-Signal
value-returns-in-Signal t c =
    c.operand.ensures ∙ sym (value_layer c.args.e.now c.args.store.now c.args.time (layer.Signal c.in-Signal.o) (rolls-Signal c.in-Signal.o ∙ sym c.in-Signal.is))

pub value-returns-in-Unary : goal.value-returns-in-Unary
value-returns-in-Unary t c =
    c.of.ensures ∙ ap (unary c.in-Unary.operator) (c.quick_value.ensures ∙ ap (λ x. value_of x c.args.store.now c.args.time) c.deref.ensures)
    ∙ sym (value_layer c.args.e.now c.args.store.now c.args.time (layer.Unary c.in-Unary.operator c.in-Unary.x) (rolls-Unary c.in-Unary.operator c.in-Unary.x ∙ sym c.in-Unary.is))

pub value-returns-in-Chain : goal.value-returns-in-Chain
value-returns-in-Chain t c =
    c.chain.ensures
    ∙ ap₂ (λ ds ls. chained ds (map (λ l. (l.0, value_of l.1 c.args.store.now c.args.time)) ls)) (c.quick_value-in-Chain.ensures ∙ ap (λ x. value_of x c.args.store.now c.args.time) c.deref-in-Chain.ensures) c.deref-in-Chain-2.ensures.value
    ∙ sym (value_layer c.args.e.now c.args.store.now c.args.time (layer.Chain c.in-Chain.first c.in-Chain.links) (rolls-Chain c.in-Chain.first c.in-Chain.links ∙ sym c.in-Chain.is))

pub value-returns-in_default : goal.value-returns-in_default
value-returns-in_default t c =
    c.other_value-made.ensures

pub quick_value-returns-in-Number : goal.quick_value-returns-in-Number
quick_value-returns-in-Number t c =
    sym (value_layer c.args.e.now c.args.store.now c.args.time (layer.Number c.in-Number.digits) (rolls-Number c.in-Number.digits ∙ sym c.in-Number.is))

pub quick_value-returns-in-Signal : goal.quick_value-returns-in-Signal
quick_value-returns-in-Signal t c =
    c.operand.ensures ∙ sym (value_layer c.args.e.now c.args.store.now c.args.time (layer.Signal c.in-Signal.o) (rolls-Signal c.in-Signal.o ∙ sym c.in-Signal.is))

pub quick_value-returns-in-Unary : goal.quick_value-returns-in-Unary
quick_value-returns-in-Unary t c =
    c.value-made.ensures

pub quick_value-returns-in_default : goal.quick_value-returns-in_default
quick_value-returns-in_default t c =
    c.other_value-made.ensures

pub other_value-returns-in-Slice : goal.other_value-returns-in-Slice
other_value-returns-in-Slice t c =
    c.slice.ensures ∙ sym (value_layer c.args.e.now c.args.store.now c.args.time (layer.Slice c.in-Slice.s) (rolls-Slice c.in-Slice.s ∙ sym c.in-Slice.is))

pub other_value-returns-in-Select : goal.other_value-returns-in-Select
other_value-returns-in-Select t c =
    c.selection.ensures
    ∙ ap₂ (selection_value c.in-Select.s c.args.store.now) (c.quick_value-word.ensures ∙ ap (λ x. value_of x c.args.store.now c.args.time) c.deref.ensures) (c.quick_value.ensures ∙ ap (λ x. value_of x c.args.store.now c.args.time) c.deref-in-Select.ensures)
    ∙ sym (value_layer c.args.e.now c.args.store.now c.args.time (layer.Select c.in-Select.s c.in-Select.word c.in-Select.low) (rolls-Select c.in-Select.s c.in-Select.word c.in-Select.low ∙ sym c.in-Select.is))

pub other_value-returns-in-Excerpt : goal.other_value-returns-in-Excerpt
other_value-returns-in-Excerpt t c =
    c.excerpt.ensures ∙ ap (excerpt_value c.in-Excerpt.s) (c.quick_value-in-Excerpt.ensures ∙ ap (λ x. value_of x c.args.store.now c.args.time) c.deref-in-Excerpt.ensures)
    ∙ sym (value_layer c.args.e.now c.args.store.now c.args.time (layer.Excerpt c.in-Excerpt.s c.in-Excerpt.low) (rolls-Excerpt c.in-Excerpt.s c.in-Excerpt.low ∙ sym c.in-Excerpt.is))

pub other_value-returns-in-Choice : goal.other_value-returns-in-Choice
other_value-returns-in-Choice t c =
    c.choice.ensures
    ∙ ap₂ (λ ps last. chosen (map (λ p. (value_of p.0 c.args.store.now c.args.time, value_of p.1 c.args.store.now c.args.time)) ps) last) c.deref-in-Choice.ensures.value (c.quick_value-in-Choice.ensures ∙ ap (λ x. value_of x c.args.store.now c.args.time) c.deref-in-Choice-2.ensures)
    ∙ sym (value_layer c.args.e.now c.args.store.now c.args.time (layer.Choice c.in-Choice.pairs c.in-Choice.last) (rolls-Choice c.in-Choice.pairs c.in-Choice.last ∙ sym c.in-Choice.is))

pub other_value-returns-in-Concat : goal.other_value-returns-in-Concat
other_value-returns-in-Concat t c =
    c.concatenation.ensures
    ∙ ap₂ (λ ds es. concatenated ds (map (λ e. value_of e c.args.store.now c.args.time) es)) (c.quick_value-in-Concat.ensures ∙ ap (λ x. value_of x c.args.store.now c.args.time) c.deref-in-Concat.ensures) c.deref-in-Concat-2.ensures.value
    ∙ sym (value_layer c.args.e.now c.args.store.now c.args.time (layer.Concat c.in-Concat.first c.in-Concat.others) (rolls-Concat c.in-Concat.first c.in-Concat.others ∙ sym c.in-Concat.is))

pub other_value-returns-in-Repeat : goal.other_value-returns-in-Repeat
other_value-returns-in-Repeat t c =
    c.repeated.ensures ∙ ap (λ ds. take 64 (replication c.in-Repeat.count.times ds)) (c.quick_value-in-Repeat.ensures ∙ ap (λ x. value_of x c.args.store.now c.args.time) c.deref-in-Repeat.ensures)
    ∙ sym (value_layer c.args.e.now c.args.store.now c.args.time (layer.Repeat c.in-Repeat.count c.in-Repeat.x) (rolls-Repeat c.in-Repeat.count c.in-Repeat.x ∙ sym c.in-Repeat.is))

pub other_value-returns-in-Resized : goal.other_value-returns-in-Resized
other_value-returns-in-Resized t c =
    c.resize.ensures ∙ ap (resized c.in-Resized.size.signed c.in-Resized.size.width) (c.quick_value-in-Resized.ensures ∙ ap (λ x. value_of x c.args.store.now c.args.time) c.deref-in-Resized.ensures)
    ∙ sym (value_layer c.args.e.now c.args.store.now c.args.time (layer.Resized c.in-Resized.size c.in-Resized.x) (rolls-Resized c.in-Resized.size c.in-Resized.x ∙ sym c.in-Resized.is))

pub chain-loop-link-preserved : goal.chain-loop-link-preserved
chain-loop-link-preserved t c =
    went_on chained linked (λ l. (l.0, value_of l.1 c.args.store.now c.args.time)) (λ ds l ls. refl) c.args.links.now c.loop-link.link-index c.loop-link-item.result c.loop-link.all c.combined-all.result _
    c.loop-link-test.true c.loop-link-item.is (c.combined-all.ensures ∙ ap (λ ds. linked c.loop-link.all (c.loop-link-item.result.0, ds)) c.quick_value.ensures) c.loop-link.invariant

pub chain-returns : goal.chain-returns
chain-returns t c =
    went_through chained (λ l. (l.0, value_of l.1 c.args.store.now c.args.time)) (λ ds. refl) c.args.links.now c.loop-link.link-index c.loop-link.all _ c.loop-link-test.false c.loop-link.invariant

pub concatenation-loop-e-preserved : goal.concatenation-loop-e-preserved
concatenation-loop-e-preserved t c =
    went_on concatenated (λ high low. take 64 (concatenation high low)) (λ e. value_of e c.args.store.now c.args.time) (λ ds l ls. refl) c.args.others.now c.loop-e.e-index c.e-item.result c.loop-e.all c.join-all.result _
    c.loop-e-test.true c.e-item.is (c.join-all.ensures ∙ ap (λ ds. take 64 (concatenation c.loop-e.all ds)) c.value.ensures) c.loop-e.invariant

pub concatenation-returns : goal.concatenation-returns
concatenation-returns t c =
    went_through concatenated (λ e. value_of e c.args.store.now c.args.time) (λ ds. refl) c.args.others.now c.loop-e.e-index c.loop-e.all _ c.loop-e-test.false c.loop-e.invariant

pub choice-loop-i-preserved-then-ne : goal.choice-loop-i-preserved-then-ne
choice-loop-i-preserved-then-ne t c =
    chosen_before (λ p. (value_of p.0 c.args.store.now c.args.time, value_of p.1 c.args.store.now c.args.time)) c.args.pairs.now c.loop-i.i c.index-pairs-i.result
    c.args.last c.loop-i.all c.picked-all.result c.loop-i-test.true c.loop-i.auto.i c.index-pairs-i.is
    (c.picked-all.ensures ∙ ap₂ (λ d ds. picked d ds c.loop-i.all) (c.truth-truth.ensures ∙ ap truth c.value.ensures) c.value-then-ne.ensures) c.loop-i.invariant
