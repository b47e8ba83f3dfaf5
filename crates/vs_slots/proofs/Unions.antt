-- Unions of lists, list by list.
use Rattle.std.proofs.Common.{◌≡◌, ℕ, ◌+◌, ◌<◌, ◌≤◌, ◌⊎◌, ◌↔◌, inl, inr, List, [], length, get_or, ◌∙◌, refl, sym, subst, arith}
use Rattle.std.specs.List.{Contains}
use Rattle.vs_graph.proofs.Sets.{contains_at, same_read}
use Rattle.vs_design.specs.vs_logic4.proofs.Basics.{below_or}

-- one of the first elements of a list is such a one
abbrev pub SomeBefore : List ℕ → ℕ → (ℕ → Type 0) → Type 0
SomeBefore xs i P = (k : ℕ) × (k < i) × (k < length xs) × P (get_or xs k 0)

-- before any
pub none_before : (base now : Type 0) (xs : List ℕ) (P : ℕ → Type 0) → (now ↔ base) → (now ↔ (base ⊎ SomeBefore xs 0 P))
none_before base now xs P e = (λ x. inl (e.0 x), λ y. elim y [ inl b ↦ e.1 b | inr s ↦ absurd (omega (arith, s.1)) ])

-- with one element more
pub one_more : (base old now : Type 0) (xs : List ℕ) (i : ℕ) (P : ℕ → Type 0) → i < length xs → (old ↔ (base ⊎ SomeBefore xs i P)) → (now ↔ (old ⊎ P (get_or xs i 0))) →
    (now ↔ (base ⊎ SomeBefore xs (i + 1) P))
one_more base old now xs i P within a b = (there, back) where
  older : base ⊎ SomeBefore xs i P → base ⊎ SomeBefore xs (i + 1) P
  older (inl x) = inl x
  older (inr s) = inr (s.0, omega (arith, s.1), s.2, s.3)

  there : now → base ⊎ SomeBefore xs (i + 1) P
  there x = elim (b.0 x) [ inl o ↦ older (a.0 o) | inr h ↦ inr (i, omega arith, within, h) ]

  back : base ⊎ SomeBefore xs (i + 1) P → now
  back (inl x) = b.1 (inl (a.1 (inl x)))
  back (inr s) = elim (below_or s.0 i s.1) [
    | inl l ↦ b.1 (inl (a.1 (inr (s.0, l, s.2, s.3))))
    | inr e ↦ b.1 (inr (subst (λ (n : ℕ). P (get_or xs n 0)) e s.3))
  ]

-- all of them
pub all_before : (base now : Type 0) (xs : List ℕ) (i : ℕ) (P : ℕ → Type 0) → length xs ≤ i → (now ↔ (base ⊎ SomeBefore xs i P)) → (now ↔ (base ⊎ ((x : ℕ) × Contains xs x × P x)))
all_before base now xs i P past e = (there, back) where
  there : now → base ⊎ ((x : ℕ) × Contains xs x × P x)
  there n = elim (e.0 n) [ inl b ↦ inl b | inr s ↦ inr (get_or xs s.0 0, contains_at xs s.0 s.2, s.3) ]

  back : base ⊎ ((x : ℕ) × Contains xs x × P x) → now
  back (inl b) = e.1 (inl b)
  back (inr y) = let c = y.1 in e.1 (inr (c.0, omega (arith, past, c.1), c.1, subst P (sym (same_read xs c.0 0 y.0 c.1 ∙ c.2)) y.2))

-- an element, by itself
pub itself : (base now : Type 0) (xs : List ℕ) (r : ℕ) → (now ↔ (base ⊎ ((x : ℕ) × Contains xs x × (x ≡ r)))) → (now ↔ (base ⊎ Contains xs r))
itself base now xs r e = (
  λ n. elim (e.0 n) [ inl b ↦ inl b | inr y ↦ inr (subst (Contains xs) y.2 y.1) ],
  λ y. elim y [ inl b ↦ e.1 (inl b) | inr c ↦ e.1 (inr (r, c, refl)) ],
)

-- without anything else
pub alone : (base now some : Type 0) → (base → ⊥) → (now ↔ (base ⊎ some)) → (now ↔ some)
alone base now some never e = (λ n. elim (e.0 n) [ inl b ↦ absurd (never b) | inr s ↦ s ], λ s. e.1 (inr s))

pub same_either : (a b c now : Type 0) → (now ↔ (a ⊎ b)) → (b ↔ c) → (now ↔ (a ⊎ c))
same_either a b c now e f = (λ n. elim (e.0 n) [ inl x ↦ inl x | inr y ↦ inr (f.0 y) ], λ y. elim y [ inl x ↦ e.1 (inl x) | inr z ↦ e.1 (inr (f.1 z)) ])

-- of a list with the same elements
pub same_as : (kept told some : Type 0) → (told ↔ kept) → (kept ↔ some) → (told ↔ some)
same_as kept told some a b = (λ x. b.0 (a.0 x), λ y. a.1 (b.1 y))

-- nothing is among those of none
pub from_none : (xs : List ℕ) (r : ℕ) → xs ≡ [] → Contains xs r → ⊥
from_none xs r e c = let y = subst (λ (l : List ℕ). Contains l r) e c in omega (arith, y.1)

-- one sort of things and then another one, without anything else
pub both_in : (base one two some other : Type 0) → (base → ⊥) → (one ↔ (base ⊎ some)) → (two ↔ (one ⊎ other)) → (two ↔ (some ⊎ other))
both_in base one two some other never e f = (there, back) where
  there : two → some ⊎ other
  there t = elim (f.0 t) [ inl o ↦ inl ((alone base one some never e).0 o) | inr x ↦ inr x ]

  back : some ⊎ other → two
  back (inl s) = f.1 (inl (e.1 (inr s)))
  back (inr x) = f.1 (inr x)
