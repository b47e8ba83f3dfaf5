use Rattle.std.proofs.Common.{ℕ, List, refl, sym, subst}
use Rattle.std.specs.List.{Contains}
use Rattle.std.proofs.lemmas.Bool.{false≢true}
use Rattle.vs_rules_of_processes.proofs.edges.are_roots_apart.Goals as goal

pub returns-then-are_same : goal.returns-then-are_same
returns-then-are_same c = (
  λ t one other r x y f g. c.if-are_same.ensures.0 refl one (subst (λ (l : List ℕ). Contains l one) (sym c.deref.ensures.value) x) other
      (subst (λ (l : List ℕ). Contains l other) (sym c.deref-2.ensures.value) y),
  λ h. refl,
)

pub returns : goal.returns
returns c = (
  λ t one other r x y f g. absurd (c.are_apart.ensures.0 t r (subst (λ (l : List ℕ). Contains l r) (sym c.deref-3.ensures.value) f)
      (subst (λ (l : List ℕ). Contains l r) (sym c.deref-4.ensures.value) g)),
  λ h. c.are_apart.ensures.1 (λ r f g. false≢true (c.if-are_same.ensures.1 (λ x m y n. h x y r
      (subst (λ (l : List ℕ). Contains l x) c.deref.ensures.value m) (subst (λ (l : List ℕ). Contains l y) c.deref-2.ensures.value n)
      (subst (λ (l : List ℕ). Contains l r) c.deref-3.ensures.value f) (subst (λ (l : List ℕ). Contains l r) c.deref-4.ensures.value g)))),
)
