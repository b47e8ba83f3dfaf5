use Rattle.std.proofs.Common.{◌++◌, ◌∷◌, [], ◌∙◌, refl, sym, ap, map}
use Rattle.std.proofs.lemmas.List.{append-nil}
use Rattle.std.proofs.lemmas.Result.{on_ok_weaker}
use Rattle.vs_design.specs.Uses.{reads, joined, all_words}
use Rattle.vs_design.specs.declared.expression.Typed.TheVariants.{rolls-Number, rolls-Signal, rolls-Slice, rolls-Select}
use Rattle.vs_design.specs.declared.expression.Typed.TheOpen as layer
use Rattle.vs_design.proofs.UsesLemmas.{reads_layer, reads_operand, reads_Chain, reads_Choice, reads_Concat, both_pushed, pushed_as}
use Rattle.vs_design.proofs.LoopLemmas.{each_pushed, all_pushed}
use Rattle.vs_design.proofs.uses.+reads.Goals as goal

pub push_reads-returns-in_ok-push_reads-in-Chain : goal.push_reads-returns-in_ok-push_reads-in-Chain
push_reads-returns-in_ok-push_reads-in-Chain t c =
    on_ok_weaker c.push_link_reads.result
    (λ is. both_pushed c.args.out.now.items (reads c.in-Chain.first.value) (joined (map (λ l. reads l.1) c.in-Chain.links.items))
    (c.in_ok-push_reads-in-Chain.ensures ∙ ap (λ e. c.args.out.now.items ++ reads e) c.deref-in-Chain.ensures)
    (is ∙ ap (λ ls. c.push_reads-in-Chain.new.out.items ++ joined (map (λ l. reads l.1) ls)) c.deref-in-Chain-2.ensures.value)
    (ap reads c.in-Chain.is ∙ reads_Chain c.in-Chain.first c.in-Chain.links))
    c.push_link_reads.ensures

pub push_reads-returns-in_ok-push_pair_reads-in-Choice : goal.push_reads-returns-in_ok-push_pair_reads-in-Choice
push_reads-returns-in_ok-push_pair_reads-in-Choice t c =
    on_ok_weaker c.push_reads-in-Choice.result
    (λ is. both_pushed c.args.out.now.items (joined (map (λ p. reads p.0 ++ reads p.1) c.in-Choice.pairs.items)) (reads c.in-Choice.last.value)
    (c.in_ok-push_pair_reads-in-Choice.ensures ∙ ap (λ ps. c.args.out.now.items ++ joined (map (λ p. reads p.0 ++ reads p.1) ps)) c.deref-in-Choice.ensures.value)
    (is ∙ ap (λ e. c.push_pair_reads.new.out.items ++ reads e) c.deref-in-Choice-2.ensures)
    (ap reads c.in-Choice.is ∙ reads_Choice c.in-Choice.pairs c.in-Choice.last))
    c.push_reads-in-Choice.ensures

pub push_reads-returns-in_ok-push_reads-in-Concat : goal.push_reads-returns-in_ok-push_reads-in-Concat
push_reads-returns-in_ok-push_reads-in-Concat t c =
    on_ok_weaker c.push_all_reads.result
    (λ is. both_pushed c.args.out.now.items (reads c.in-Concat.first.value) (joined (map reads c.in-Concat.others.items))
    (c.in_ok-push_reads-in-Concat.ensures ∙ ap (λ e. c.args.out.now.items ++ reads e) c.deref-in-Concat.ensures)
    (is ∙ ap (λ es. c.push_reads-in-Concat.new.out.items ++ joined (map reads es)) c.deref-in-Concat-2.ensures.value)
    (ap reads c.in-Concat.is ∙ reads_Concat c.in-Concat.first c.in-Concat.others))
    c.push_all_reads.ensures

pub push_all_reads-loop-e-preserved : goal.push_all_reads-loop-e-preserved
push_all_reads-loop-e-preserved t c =
    each_pushed reads c.args.all.now c.loop-e.e-index c.e-item.result c.loop-e.out.items c.push_reads.new.out.items _
    c.loop-e-test.true c.e-item.is c.in_ok-push_reads.ensures c.loop-e.invariant

pub push_all_reads-returns : goal.push_all_reads-returns
push_all_reads-returns t c = all_pushed reads c.args.all.now c.loop-e.e-index c.loop-e.out.items _ c.loop-e-test.false c.loop-e.invariant

pub push_link_reads-loop-e-preserved : goal.push_link_reads-loop-e-preserved
push_link_reads-loop-e-preserved t c =
    each_pushed (λ l. reads l.1) c.args.links.now c.loop-e.e-index c.loop-e-item.result c.loop-e.out.items c.push_reads.new.out.items _
    c.loop-e-test.true c.loop-e-item.is c.in_ok-push_reads.ensures c.loop-e.invariant

pub push_link_reads-returns : goal.push_link_reads-returns
push_link_reads-returns t c = all_pushed (λ l. reads l.1) c.args.links.now c.loop-e.e-index c.loop-e.out.items _ c.loop-e-test.false c.loop-e.invariant

pub push_pair_reads-loop-condition-preserved : goal.push_pair_reads-loop-condition-preserved
push_pair_reads-loop-condition-preserved t c =
    each_pushed (λ p. reads p.0 ++ reads p.1) c.args.pairs.now c.loop-condition.condition-index c.loop-condition-item.result c.loop-condition.out.items c.push_reads-in-loop-condition.new.out.items _
    c.loop-condition-test.true c.loop-condition-item.is (both_pushed c.loop-condition.out.items (reads c.loop-condition-item.result.0) (reads c.loop-condition-item.result.1) c.in_ok-push_reads.ensures c.in_ok-push_reads-2.ensures refl) c.loop-condition.invariant

pub push_pair_reads-returns : goal.push_pair_reads-returns
push_pair_reads-returns t c = all_pushed (λ p. reads p.0 ++ reads p.1) c.args.pairs.now c.loop-condition.condition-index c.loop-condition.out.items _ c.loop-condition-test.false c.loop-condition.invariant

pub push_reads-returns-in-Number : goal.push_reads-returns-in-Number
push_reads-returns-in-Number t c =
    sym (append-nil c.args.out.now.items) ∙ ap (λ rs. c.args.out.now.items ++ rs) (sym (reads_layer c.args.e.now (layer.Number c.in-Number.field-0) (rolls-Number c.in-Number.field-0 ∙ sym c.in-Number.is)))

pub push_reads-returns-in_ok-push-in-Signal : goal.push_reads-returns-in_ok-push-in-Signal
push_reads-returns-in_ok-push-in-Signal t c =
    c.in_ok-push-in-Signal.ensures.items
    ∙ ap (λ rs. c.args.out.now.items ++ rs) (ap (λ r. r ∷ []) c.whole.ensures ∙ sym (reads_layer c.args.e.now (layer.Signal c.in-Signal.o) (rolls-Signal c.in-Signal.o ∙ sym c.in-Signal.is)))

pub push_reads-returns-in_ok-push-in-Slice : goal.push_reads-returns-in_ok-push-in-Slice
push_reads-returns-in_ok-push-in-Slice t c =
    c.in_ok-push-in-Slice.ensures.items
    ∙ ap (λ rs. c.args.out.now.items ++ rs) (ap (λ r. r ∷ []) c.slice_range.ensures ∙ sym (reads_layer c.args.e.now (layer.Slice c.in-Slice.s) (rolls-Slice c.in-Slice.s ∙ sym c.in-Slice.is)))

pub push_reads-returns-in-Excerpt : goal.push_reads-returns-in-Excerpt
push_reads-returns-in-Excerpt t c =
    pushed_as c.push_reads-in-Excerpt.result c.args.out.now.items c.push_reads-in-Excerpt.new.out.items c.push_reads-in-Excerpt.ensures
    (ap reads c.deref-in-Excerpt.ensures ∙ sym (reads_operand c.args.e.now c.in-Excerpt.x c.in-Excerpt.is))

pub push_reads-returns-in_ok-push_reads-in-Select : goal.push_reads-returns-in_ok-push_reads-in-Select
push_reads-returns-in_ok-push_reads-in-Select t c =
    let whole = all_words c.in-Select.s.signal in
    on_ok_weaker c.push_reads-in-Select.result
    (λ is. both_pushed c.args.out.now.items (whole ∷ reads c.in-Select.word.value) (reads c.in-Select.low.value)
    (both_pushed c.args.out.now.items (whole ∷ []) (reads c.in-Select.word.value)
    (c.in_ok-push-in-Select.ensures.items ∙ ap (λ r. c.args.out.now.items ++ r ∷ []) c.all_words.ensures)
    (c.in_ok-push_reads-in-Select.ensures ∙ ap (λ e. c.push-in-Select.new.self.items ++ reads e) c.deref.ensures) refl)
    (is ∙ ap (λ e. c.push_reads.new.out.items ++ reads e) c.deref-in-Select.ensures)
    (reads_layer c.args.e.now (layer.Select c.in-Select.s c.in-Select.word c.in-Select.low) (rolls-Select c.in-Select.s c.in-Select.word c.in-Select.low ∙ sym c.in-Select.is)))
    c.push_reads-in-Select.ensures
