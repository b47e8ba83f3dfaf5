-- Lists of numbers.
use Rattle.std.proofs.Common.{◌≡◌, ℕ, ◌<◌, ◌≤◌, ◌↔◌, Some, None, List, length, get_or, sym, ◌∙◌, ap, subst, arith}
use Rattle.std.specs.List.{Contains}
use Rattle.std.proofs.lemmas.Option.{same_Some}
use Rattle.vs_maps.specs.vs_graph.proofs.Sets.{same_read, contains_at}
use Rattle.vs_drivers.specs.Copies.{IsOnly}

-- there is none in an empty list
pub none_only : (xs : List ℕ) → length xs ≡ 0 → (x : ℕ) → (IsOnly (λ y. Contains xs y) x ↔ None ≡ Some x)
none_only xs h x = (λ o. absurd (omega (arith, h, o.0.1)), λ e. cc)

-- two that differ are two
pub first_apart : (xs : List ℕ) (n first : ℕ) → first ≡ get_or xs 0 0 → (get_or xs n 0 ≡ first → ⊥) → get_or xs n 0 ≡ get_or xs 0 0 → ⊥
first_apart xs n first e apart h = apart (h ∙ sym e)

pub two_not_only : (xs : List ℕ) (n : ℕ) → n < length xs → (get_or xs n 0 ≡ get_or xs 0 0 → ⊥) → (x : ℕ) → (IsOnly (λ y. Contains xs y) x ↔ None ≡ Some x)
two_not_only xs n h apart x = (
  λ o. absurd (apart (o.1 (get_or xs n 0) (contains_at xs n h) ∙ sym (o.1 (get_or xs 0 0) (contains_at xs 0 (omega (arith, h)))))),
  λ e. cc,
)

-- all are the first
pub all_only : (xs : List ℕ) (n : ℕ) → 0 < length xs → length xs ≤ n → ((k : ℕ) → k < n → get_or xs k 0 ≡ get_or xs 0 0) → (x : ℕ) → (IsOnly (λ y. Contains xs y) x ↔ Some (get_or xs 0 0) ≡ Some x)
all_only xs n some long all x = (
  λ o. ap Some (o.1 (get_or xs 0 0) (contains_at xs 0 some)),
  λ e. subst (IsOnly (λ (y : ℕ). Contains xs y)) (same_Some (get_or xs 0 0) x e)
      (contains_at xs 0 some, λ y c. sym (same_read xs c.0 0 y c.1 ∙ c.2) ∙ all c.0 (omega (arith, c.1, long))),
)
