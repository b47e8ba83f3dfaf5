-- Bits that are in each of some ranges alike.
use Rattle.std.proofs.Common.{◌≡◌, ℕ, ◌+◌, ◌<◌, ◌≤◌, inl, inr, ◌↔◌, IsTrue, false, List, length, get_or, sym, ◌∙◌, ap, subst, arith}
use Rattle.std.specs.List.{Contains}
use Rattle.std.proofs.lemmas.List.{get_or_default}
use Rattle.std.proofs.lemmas.List.Elements.{Contains-get_or}
use Rattle.vs_design.specs.declared.range.BitRange.{BitRange}
use Rattle.vs_design.specs.Uses.{covers}
use Rattle.vs_design.specs.vs_logic4.proofs.Basics.{below_or}

-- of the first of some ranges
pub record PlacesSoFar (rs : List BitRange) (i v w width place end : ℕ) : Type 0 where
  pub more : place < end
  pub bounded : end ≤ width
  pub alike : (k : ℕ) (q : BitRange) → k < i → get_or rs k q ≡ q → (n : ℕ) → place ≤ n → n < end → covers v w n q ≡ covers v w place q

pub record WordsSoFar (rs : List BitRange) (i v count word end : ℕ) : Type 0 where
  pub more : word < end
  pub bounded : end ≤ count
  pub alike : (k : ℕ) (q : BitRange) → k < i → get_or rs k q ≡ q → (w n : ℕ) → word ≤ w → w < end → covers v w n q ≡ covers v word n q

-- ---- loops over ranges

pub more_ranges : (rs : List BitRange) (P : BitRange → Type 0) (i : ℕ) (z : BitRange) → i < length rs → ((k : ℕ) (q : BitRange) → k < i → get_or rs k q ≡ q → P q) →
    P (get_or rs i z) → (k : ℕ) (q : BitRange) → k < i + 1 → get_or rs k q ≡ q → P q
more_ranges rs P i z within before here k q less is = elim (below_or k i less) [
  | inl l ↦ before k q l is
  | inr e ↦ subst P (get_or_default rs i z q within ∙ ap (λ (m : ℕ). get_or rs m q) (sym e) ∙ is) here
]

pub not_all : (rs : List BitRange) (P : BitRange → Type 0) (i : ℕ) (z : BitRange) → i < length rs → (P (get_or rs i z) → ⊥) → (IsTrue false ↔ ((r : BitRange) → Contains rs r → P r))
not_all rs P i z within not = (λ h. absurd (grind (arith, h)), λ all. absurd (not (all (get_or rs i z) (Contains-get_or rs i z within))))
