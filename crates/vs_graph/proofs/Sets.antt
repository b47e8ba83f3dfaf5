-- Unions of lists, and lists that have nothing in common.
use Rattle.std.proofs.Common.{◌≡◌, ℕ, ◌+◌, ◌<◌, ◌≤◌, ◌⊎◌, ◌↔◌, inl, inr, List, length, get_or, true, false, IsTrue, zero, suc, [], ◌∷◌, ◌∙◌, refl, sym, subst, arith}
use Rattle.std.specs.List.{Contains}
use Rattle.vs_graph.proofs.RowLemmas.{below_or}

-- a union with one list more
pub more : (has : ℕ → Type 0) (old new : Type 0) (n : ℕ) → (old ↔ ((i : ℕ) × (i < n) × has i)) → (new ↔ (old ⊎ has n)) → (new ↔ ((i : ℕ) × (i < n + 1) × has i))
more has old new n a b = (there, back) where
  there : new → (i : ℕ) × (i < n + 1) × has i
  there x = elim (b.0 x) [ inl o ↦ let y = a.0 o in (y.0, omega (arith, y.1), y.2) | inr h ↦ (n, omega arith, h) ]

  back : (i : ℕ) × (i < n + 1) × has i → new
  back y = elim (below_or y.0 n y.1) [ inl l ↦ b.1 (inl (a.1 (y.0, l, y.2))) | inr e ↦ b.1 (inr (subst has e y.2)) ]

-- a union of lists of all numbers below n, where the numbers below i are those
pub up_to : (has : ℕ → Type 0) (new : Type 0) (i n : ℕ) → n ≤ i → i ≤ n → (new ↔ ((k : ℕ) × (k < i) × has k)) → (new ↔ ((k : ℕ) × (k < n) × has k))
up_to has new i n a b e = (λ x. let y = e.0 x in (y.0, omega (arith, a, b, y.1), y.2), λ y. e.1 (y.0, omega (arith, a, b, y.1), y.2))

pub same_read : (xs : List ℕ) (k d e : ℕ) → k < length xs → get_or xs k d ≡ get_or xs k e
same_read [] k d e h = absurd (omega (arith, h))
same_read (x ∷ xs) zero d e h = refl
same_read (x ∷ xs) (suc k) d e h = same_read xs k d e (omega (arith, h))

pub contains_at : (xs : List ℕ) (k : ℕ) → k < length xs → Contains xs (get_or xs k 0)
contains_at xs k h = (k, h, same_read xs k (get_or xs k 0) 0 h)

false_is : {A : Type 0} → IsTrue false → A
false_is h = absurd (grind (arith, h))

pub shared : (a b : List ℕ) (k : ℕ) → k < length a → Contains b (get_or a k 0) → (IsTrue false ↔ ((r : ℕ) → Contains a r → Contains b r → ⊥))
shared a b k h c = (λ f. false_is f, λ f. absurd (f (get_or a k 0) (contains_at a k h) c))

-- one that isn't there, and none before it
pub further : (a b : List ℕ) (i : ℕ) → ((k : ℕ) → k < i → Contains b (get_or a k 0) → ⊥) → (Contains b (get_or a i 0) → ⊥) → (k : ℕ) → k < i + 1 → Contains b (get_or a k 0) → ⊥
further a b i before not k h c = elim (below_or k i h) [ inl l ↦ before k l c | inr e ↦ not (subst (λ (n : ℕ). Contains b (get_or a n 0)) e c) ]

pub apart : (a b : List ℕ) (i : ℕ) → length a ≤ i → ((k : ℕ) → k < i → Contains b (get_or a k 0) → ⊥) → (IsTrue true ↔ ((r : ℕ) → Contains a r → Contains b r → ⊥))
apart a b i h none = (λ t r x y. none x.0 (omega (arith, h, x.1)) (subst (Contains b) (sym (same_read a x.0 0 r x.1 ∙ x.2)) y), λ f. grind arith)

-- ---- lists of one number

pub other : (a : List ℕ) (x k : ℕ) → k < length a → (get_or a k 0 ≡ x → ⊥) → (IsTrue false ↔ ((y : ℕ) → Contains a y → y ≡ x))
other a x k h not = (λ f. false_is f, λ f. absurd (not (f (get_or a k 0) (contains_at a k h))))

pub one_more : (a : List ℕ) (x i : ℕ) → ((k : ℕ) → k < i → get_or a k 0 ≡ x) → get_or a i 0 ≡ x → (k : ℕ) → k < i + 1 → get_or a k 0 ≡ x
one_more a x i before here k h = elim (below_or k i h) [ inl l ↦ before k l | inr e ↦ subst (λ (n : ℕ). get_or a n 0 ≡ x) (sym e) here ]

pub all_one : (a : List ℕ) (x i : ℕ) → length a ≤ i → ((k : ℕ) → k < i → get_or a k 0 ≡ x) → (IsTrue true ↔ ((y : ℕ) → Contains a y → y ≡ x))
all_one a x i h same = (λ t y c. sym (same_read a c.0 0 y c.1 ∙ c.2) ∙ same c.0 (omega (arith, h, c.1)), λ f. grind arith)
