use Rattle.std.proofs.Common.{◌≡◌, ℕ, Some, slice_get, refl, sym, subst}
use Rattle.vs_rules_of_processes.specs.declared.edges.Term.{Term}
use Rattle.vs_rules_of_processes.specs.EdgePlaces.{IsPair}
use Rattle.vs_rules_of_processes.proofs.PairLemmas.{all_keep_it, one_breaks, one_more}
use Rattle.vs_rules_of_processes.proofs.edges.all_pair.Goals as goal

pub returns-then-not-all_pair_with : goal.returns-then-not-all_pair_with
returns-then-not-all_pair_with c =
    one_breaks (λ (a : Term). (k : ℕ) (b : Term) → slice_get c.args.terms.now k ≡ Some b → IsPair a b) c.args.terms.now c.loop-a.a-index c.a-item.result c.loop-a-test.true
    (λ h. c.if-not-all_pair_with.ensures.1 (subst (λ (a : Term). (k : ℕ) (b : Term) → slice_get c.args.terms.now k ≡ Some b → IsPair a b) (sym c.a-item.is) h))

pub loop-a-preserved : goal.loop-a-preserved
loop-a-preserved c =
    one_more (λ (a : Term). (k : ℕ) (b : Term) → slice_get c.args.terms.now k ≡ Some b → IsPair a b) c.args.terms.now c.loop-a.a-index c.a-item.result c.loop-a-test.true c.loop-a.invariant
    (subst (λ (a : Term). (k : ℕ) (b : Term) → slice_get c.args.terms.now k ≡ Some b → IsPair a b) c.a-item.is (c.if-not-all_pair_with.ensures.0 refl))

pub returns : goal.returns
returns c = all_keep_it (λ (a : Term). (k : ℕ) (b : Term) → slice_get c.args.terms.now k ≡ Some b → IsPair a b) c.args.terms.now c.loop-a.a-index c.loop-a-test.false c.loop-a.invariant
