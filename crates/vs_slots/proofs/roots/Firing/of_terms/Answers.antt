use Rattle.std.proofs.Common.{◌≡◌, Some, length, slice_get}
use Rattle.std.specs.List.{Contains}
use Rattle.vs_design.specs.declared.statement.EventTerm.{EventTerm}
use Rattle.vs_slots.specs.Kept.{IsTermIn}
use Rattle.vs_slots.proofs.KeptLemmas.{at_element, each_element}
use Rattle.vs_slots.proofs.Unions.{same_either}
use Rattle.vs_graph.proofs.Sets.{more, up_to}
use Rattle.vs_slots.proofs.roots.Firing.of_terms.Goals as goal

pub loop-i-preserved : goal.loop-i-preserved
loop-i-preserved c r =
    let terms = c.args.terms.now in
    let P = λ (t : EventTerm). IsTermIn c.args.facts.now c.args.self.now t r in
    more (λ i. (t : EventTerm) × (slice_get terms i ≡ Some t) × IsTermIn c.args.facts.now c.args.self.now t r) (Contains c.loop-i.all r) (Contains c.put_term.new.out r) c.loop-i.i
    (c.loop-i.invariant r)
    (same_either (Contains c.loop-i.all r) _ ((t : EventTerm) × (slice_get terms c.loop-i.i ≡ Some t) × IsTermIn c.args.facts.now c.args.self.now t r) (Contains c.put_term.new.out r)
    (c.in_ok-put_term.ensures r) (at_element P terms c.loop-i.i _ c.loop-i-test.true))

pub returns : goal.returns
returns c r =
    let terms = c.args.terms.now in
    let P = λ (t : EventTerm). IsTermIn c.args.facts.now c.args.self.now t r in
    let both = up_to (λ i. (t : EventTerm) × (slice_get terms i ≡ Some t) × IsTermIn c.args.facts.now c.args.self.now t r) (Contains c.loop-i.all r) c.loop-i.i (length terms)
    c.loop-i-test.false c.loop-i.auto.i-end (c.loop-i.invariant r) in
    let all = each_element P terms in
    let kept = c.list.ensures.exact r in
    (λ x. all.0 (both.0 (kept.0 x)), λ y. kept.1 (both.1 (all.1 y)))
