use Rattle.std.proofs.Common.{◌≡◌, ℕ, ◌+◌, Some, List, [], ◌∷◌, ◌++◌, length, slice_get, sym, ◌∙◌, ap, subst, arith}
use Rattle.std.proofs.lemmas.List.{length-append}
use Rattle.vs_design.specs.declared.statement.EventTerm.{EventTerm}
use Rattle.vs_design.specs.vs_logic4.proofs.Basics.{each_more}
use Rattle.vs_rules_of_processes.specs.declared.edges.Term.{Term}
use Rattle.vs_rules_of_processes.specs.EdgePlaces.{IsKnown}
use Rattle.vs_rules_of_processes.proofs.PairLemmas.{at_place}
use Rattle.vs_rules_of_processes.proofs.edges.all_known.Goals as goal

pub loop-i-preserved : goal.loop-i-preserved
loop-i-preserved c =
    let old = c.loop-i.all.items in
    let one = c.in_ok-one.one in
    let f = c.args.slots.now in
    let terms = c.args.terms.now in
    let e : c.push.new.self.items ≡ old ++ one ∷ [] = c.in_ok-push.ensures.items in
    let here : (x : EventTerm) → slice_get terms (length old) ≡ Some x → IsKnown f.design f.claims x one =
    subst (λ (n : ℕ). (x : EventTerm) → slice_get terms n ≡ Some x → IsKnown f.design f.claims x one) (sym c.loop-i.invariant.0)
    (λ x is. at_place (λ (t : EventTerm). IsKnown f.design f.claims t one) terms c.loop-i.i _ x c.loop-i-test.true is c.in_ok-one.ensures) in (
      ap length e ∙ length-append old (one ∷ []) ∙ ap (λ (n : ℕ). n + 1) c.loop-i.invariant.0,
      λ k y is. each_more (λ n z. (x : EventTerm) → slice_get terms n ≡ Some x → IsKnown f.design f.claims x z) old one c.loop-i.invariant.1 here k y
          (subst (λ (l : List Term). slice_get l k ≡ Some y) e is),
    )

pub returns : goal.returns
returns c =
    let at : c.loop-i.i ≡ length c.args.terms.now = omega (arith, c.loop-i-test.false, c.loop-i.auto.i-end) in
    record { as_many = c.loop-i.invariant.0 ∙ at; each = λ i x k e f. c.loop-i.invariant.1 i k f x e }
