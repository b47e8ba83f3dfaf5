use Rattle.std.proofs.Common.{ℕ, ◌↔◌, IsTrue, List, subst}
use Rattle.std.specs.List.{Contains}
use Rattle.vs_rules_of_processes.proofs.edges.is_one_signal.Goals as goal

pub returns : goal.returns
returns c =
    let b = c.is_apart.result in
    let one = subst (λ (l : List ℕ). (IsTrue b ↔ ((r : ℕ) → Contains l r → Contains c.deref-2.result.now r → ⊥))) c.deref.ensures.value c.is_apart.ensures in
    let apart = subst (λ (l : List ℕ). (IsTrue b ↔ ((r : ℕ) → Contains c.args.a.now.roots.items r → Contains l r → ⊥))) c.deref-2.ensures.value one in
    (λ t root x y. absurd (apart.0 t root x y), λ h. apart.1 (λ root x y. c.if-a-b.false (h root x y)))
