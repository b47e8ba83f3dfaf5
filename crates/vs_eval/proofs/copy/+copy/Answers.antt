use Rattle.std.proofs.Common.{List, take, refl, sym, ◌∙◌, ap, ap₂}
use Rattle.vs_design.specs.vs_logic4.specs.declared.digit.Digit.{Digit}
use Rattle.vs_design.specs.vs_logic4.specs.Operators.{unary}
use Rattle.vs_design.specs.vs_logic4.specs.Parts.{replication}
use Rattle.vs_design.specs.vs_logic4.specs.Vectors.{resized}
use Rattle.vs_design.specs.declared.expression.Link.{Link}
use Rattle.vs_design.specs.declared.expression.Typed.{Typed}
use Rattle.vs_design.specs.declared.expression.Typed.TheOpen as layer
use Rattle.vs_design.specs.declared.expression.Typed.TheVariants as v
use Rattle.vs_eval.specs.Values.{chained, chosen, concatenated, excerpt_value, selection_value, value_of}
use Rattle.vs_eval.specs.Copies.{links_of, pairs_of, parts_of}
use Rattle.vs_eval.proofs.CopyLemmas.{copied_as, copied_layer, copied_on, copied_through, paired}
use Rattle.vs_eval.proofs.copy.+copy.Goals as goal

-- ---- an expression

pub copied-returns-in_ok-boxed-in-Select : goal.copied-returns-in_ok-boxed-in-Select
copied-returns-in_ok-boxed-in-Select t c =
    let s = c.in-Select.s in
    let word = c.in_ok-word-in-Select.word in
    let low = c.in_ok-boxed-in-Select.field-0 in
    copied_layer (v.Select s word low) c.args.e.now (layer.Select s word low) (layer.Select s c.in-Select.word c.in-Select.low)
    (v.rolls-Select s word low) (v.rolls-Select s c.in-Select.word c.in-Select.low ∙ sym c.in-Select.is)
    (λ store time.
    ap₂ (selection_value s store)
    (copied_as word.value c.deref.result.now c.in-Select.word.value c.deref.ensures c.in_ok-word-in-Select.ensures store time)
    (copied_as low.value c.deref-in-Select.result.now c.in-Select.low.value c.deref-in-Select.ensures c.in_ok-boxed-in-Select.ensures store time))

pub copied-returns-in_ok-boxed-in-Excerpt : goal.copied-returns-in_ok-boxed-in-Excerpt
copied-returns-in_ok-boxed-in-Excerpt t c =
    let s = c.in-Excerpt.s in
    let low = c.in_ok-boxed-in-Excerpt.field-0 in
    copied_layer (v.Excerpt s low) c.args.e.now (layer.Excerpt s low) (layer.Excerpt s c.in-Excerpt.low)
    (v.rolls-Excerpt s low) (v.rolls-Excerpt s c.in-Excerpt.low ∙ sym c.in-Excerpt.is)
    (λ store time.
    ap (excerpt_value s) (copied_as low.value c.deref-in-Excerpt.result.now c.in-Excerpt.low.value c.deref-in-Excerpt.ensures c.in_ok-boxed-in-Excerpt.ensures store time))

pub copied-returns-in_ok-boxed-in-Unary : goal.copied-returns-in_ok-boxed-in-Unary
copied-returns-in_ok-boxed-in-Unary t c =
    let o = c.in-Unary.operator in
    let x = c.in_ok-boxed-in-Unary.field-0 in
    copied_layer (v.Unary o x) c.args.e.now (layer.Unary o x) (layer.Unary o c.in-Unary.x)
    (v.rolls-Unary o x) (v.rolls-Unary o c.in-Unary.x ∙ sym c.in-Unary.is)
    (λ store time.
    ap (unary o) (copied_as x.value c.deref-in-Unary.result.now c.in-Unary.x.value c.deref-in-Unary.ensures c.in_ok-boxed-in-Unary.ensures store time))

pub copied-returns-in_ok-copied_links-in-Chain : goal.copied-returns-in_ok-copied_links-in-Chain
copied-returns-in_ok-copied_links-in-Chain t c =
    let x = c.in_ok-x-in-Chain.x in
    let links = c.in_ok-copied_links-in-Chain.field-0 in
    copied_layer (v.Chain x links) c.args.e.now (layer.Chain x links) (layer.Chain c.in-Chain.x c.in-Chain.links)
    (v.rolls-Chain x links) (v.rolls-Chain c.in-Chain.x c.in-Chain.links ∙ sym c.in-Chain.is)
    (λ store time.
    ap₂ chained
    (copied_as x.value c.deref-in-Chain.result.now c.in-Chain.x.value c.deref-in-Chain.ensures c.in_ok-x-in-Chain.ensures store time)
    (c.in_ok-copied_links-in-Chain.ensures store time ∙ ap (λ (ls : List (Link × Typed)). links_of ls store time) c.deref-in-Chain-2.ensures.value))

pub copied-returns-in_ok-copied_pairs-in-Choice : goal.copied-returns-in_ok-copied_pairs-in-Choice
copied-returns-in_ok-copied_pairs-in-Choice t c =
    let pairs = c.in_ok-copied_pairs-in-Choice.field-0 in
    let last = c.in_ok-last-in-Choice.last in
    copied_layer (v.Choice pairs last) c.args.e.now (layer.Choice pairs last) (layer.Choice c.in-Choice.pairs c.in-Choice.last)
    (v.rolls-Choice pairs last) (v.rolls-Choice c.in-Choice.pairs c.in-Choice.last ∙ sym c.in-Choice.is)
    (λ store time.
    ap₂ chosen
    (c.in_ok-copied_pairs-in-Choice.ensures store time ∙ ap (λ (ps : List (Typed × Typed)). pairs_of ps store time) c.deref-in-Choice-2.ensures.value)
    (copied_as last.value c.deref-in-Choice.result.now c.in-Choice.last.value c.deref-in-Choice.ensures c.in_ok-last-in-Choice.ensures store time))

pub copied-returns-in_ok-copied_parts-in-Concat : goal.copied-returns-in_ok-copied_parts-in-Concat
copied-returns-in_ok-copied_parts-in-Concat t c =
    let x = c.in_ok-x-in-Concat.x in
    let parts = c.in_ok-copied_parts-in-Concat.field-0 in
    copied_layer (v.Concat x parts) c.args.e.now (layer.Concat x parts) (layer.Concat c.in-Concat.x c.in-Concat.others)
    (v.rolls-Concat x parts) (v.rolls-Concat c.in-Concat.x c.in-Concat.others ∙ sym c.in-Concat.is)
    (λ store time.
    ap₂ concatenated
    (copied_as x.value c.deref-in-Concat.result.now c.in-Concat.x.value c.deref-in-Concat.ensures c.in_ok-x-in-Concat.ensures store time)
    (c.in_ok-copied_parts-in-Concat.ensures store time ∙ ap (λ (es : List Typed). parts_of es store time) c.deref-in-Concat-2.ensures.value))

pub copied-returns-in_ok-boxed-in-Repeat : goal.copied-returns-in_ok-boxed-in-Repeat
copied-returns-in_ok-boxed-in-Repeat t c =
    let n = c.in-Repeat.count in
    let x = c.in_ok-boxed-in-Repeat.field-0 in
    copied_layer (v.Repeat n x) c.args.e.now (layer.Repeat n x) (layer.Repeat n c.in-Repeat.x)
    (v.rolls-Repeat n x) (v.rolls-Repeat n c.in-Repeat.x ∙ sym c.in-Repeat.is)
    (λ store time.
    ap (λ (ds : List Digit). take 64 (replication n.times ds)) (copied_as x.value c.deref-in-Repeat.result.now c.in-Repeat.x.value c.deref-in-Repeat.ensures c.in_ok-boxed-in-Repeat.ensures store time))

pub copied-returns-in_ok-boxed-in-Resized : goal.copied-returns-in_ok-boxed-in-Resized
copied-returns-in_ok-boxed-in-Resized t c =
    let size = c.in-Resized.size in
    let x = c.in_ok-boxed-in-Resized.field-0 in
    copied_layer (v.Resized size x) c.args.e.now (layer.Resized size x) (layer.Resized size c.in-Resized.x)
    (v.rolls-Resized size x) (v.rolls-Resized size c.in-Resized.x ∙ sym c.in-Resized.is)
    (λ store time.
    ap (resized size.signed size.width) (copied_as x.value c.deref-in-Resized.result.now c.in-Resized.x.value c.deref-in-Resized.ensures c.in_ok-boxed-in-Resized.ensures store time))

pub boxed-returns : goal.boxed-returns
boxed-returns t c = λ store time. ap (λ (e : Typed). value_of e store time) c.in_ok-new.ensures.ok ∙ c.in_ok-copy.ensures store time

-- ---- lists of them

pub copied_links-loop-link-init : goal.copied_links-loop-link-init
copied_links-loop-link-init t c = λ store time. ap (λ (ls : List (Link × Typed)). links_of ls store time) c.in_ok-all.ensures.items

pub copied_links-loop-link-preserved : goal.copied_links-loop-link-preserved
copied_links-loop-link-preserved t c = λ store time.
    copied_on {B = Link × List Digit} (λ l. (l.0, value_of l.1 store time)) c.args.links.now c.loop-link.link-index c.loop-link-item.result (c.loop-link-item.result.0, c.in_ok-copy.copy) c.loop-link.all.items c.push.new.self.items
    c.loop-link-test.true c.loop-link-item.is c.in_ok-push.ensures.items (paired c.loop-link-item.result.0 c.loop-link-item.result.0 _ _ refl (c.in_ok-copy.ensures store time)) (c.loop-link.invariant store time)

pub copied_links-returns : goal.copied_links-returns
copied_links-returns t c = λ store time.
    copied_through {B = Link × List Digit} (λ l. (l.0, value_of l.1 store time)) c.args.links.now c.loop-link.link-index c.loop-link.all.items c.loop-link-test.false (c.loop-link.invariant store time)

pub copied_pairs-loop-condition-init : goal.copied_pairs-loop-condition-init
copied_pairs-loop-condition-init t c = λ store time. ap (λ (ps : List (Typed × Typed)). pairs_of ps store time) c.in_ok-all.ensures.items

pub copied_pairs-loop-condition-preserved : goal.copied_pairs-loop-condition-preserved
copied_pairs-loop-condition-preserved t c = λ store time.
    copied_on {B = List Digit × List Digit} (λ p. (value_of p.0 store time, value_of p.1 store time)) c.args.pairs.now c.loop-condition.condition-index c.loop-condition-item.result (c.in_ok-condition.condition, c.in_ok-copy.copy)
    c.loop-condition.all.items c.push.new.self.items c.loop-condition-test.true c.loop-condition-item.is c.in_ok-push.ensures.items
    (paired _ _ _ _ (c.in_ok-condition.ensures store time) (c.in_ok-copy.ensures store time)) (c.loop-condition.invariant store time)

pub copied_pairs-returns : goal.copied_pairs-returns
copied_pairs-returns t c = λ store time.
    copied_through {B = List Digit × List Digit} (λ p. (value_of p.0 store time, value_of p.1 store time)) c.args.pairs.now c.loop-condition.condition-index c.loop-condition.all.items c.loop-condition-test.false
    (c.loop-condition.invariant store time)

pub copied_parts-loop-part-preserved : goal.copied_parts-loop-part-preserved
copied_parts-loop-part-preserved t c = λ store time.
    copied_on (λ (e : Typed). value_of e store time) c.args.parts.now c.loop-part.part-index c.part-item.result c.in_ok-copy.copy c.loop-part.all.items c.push.new.self.items
    c.loop-part-test.true c.part-item.is c.in_ok-push.ensures.items (c.in_ok-copy.ensures store time) (c.loop-part.invariant store time)

pub copied_parts-returns : goal.copied_parts-returns
copied_parts-returns t c = λ store time.
    copied_through (λ (e : Typed). value_of e store time) c.args.parts.now c.loop-part.part-index c.loop-part.all.items c.loop-part-test.false (c.loop-part.invariant store time)
