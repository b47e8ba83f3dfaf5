-- Who reads a signal.
use Rattle.std.proofs.Common.{◌≡◌, ℕ, zero, suc, ◌==◌, ◌↔◌, inl, inr, Bool, true, false, IsTrue, Some, List, [], ◌∷◌, ◌++◌, length, slice_get, refl, sym, ◌∙◌, ap, subst, arith, if◌then◌else◌}
use Rattle.std.specs.List.{Contains}
use Rattle.std.proofs.lemmas.Bool.{false≢true, eqb-true, eq-eqb}
use Rattle.std.proofs.lemmas.Option.{none-some, same_Some}
use Rattle.vs_design.specs.declared.design.Assign.{Assign}
use Rattle.vs_design.specs.declared.range.BitRange.{BitRange}
use Rattle.vs_design.specs.declared.readers.Reader.{Reader}
use Rattle.vs_design.specs.Parts.{Parts}
use Rattle.vs_design.specs.Readers.{readings, readers_from, readers}
use Rattle.vs_design.specs.Uses.{reads, is_of}
use Rattle.vs_maps.specs.vs_rules.specs.Paths.{ListsSignal}
use Rattle.vs_claims.specs.vs_maps.specs.Ranges.{HasSignal}
use Rattle.vs_claims.specs.vs_maps.proofs.RangeLemmas.{later_in, in_either, lists_signal}
use Rattle.vs_graph.proofs.RowLemmas.{head_in as first_in}

-- ---- continuous assignments

reading_more : (n : ℕ) (x : BitRange) (rs : List BitRange) (v : ℕ) (b : Bool) → is_of v x ≡ b →
    (if b then (record { assign = n; range = x }) ∷ readings n rs v else readings n rs v) ≡ [] → ((r : BitRange) → Contains rs r → r.signal ≡ v → ⊥) →
    (r : BitRange) → Contains (x ∷ rs) r → r.signal ≡ v → ⊥
reading_more n x rs v true e h before r c s = absurd (cc)
reading_more n x rs v false e h before r c s = elim (in_either x rs r c) [
  | inl same ↦ false≢true (sym e ∙ eq-eqb x.signal v (ap (λ (y : BitRange). y.signal) same ∙ s))
  | inr m ↦ before r m s
]

reading_rest : (n : ℕ) (x : BitRange) (rs : List BitRange) (v : ℕ) (b : Bool) →
    (if b then (record { assign = n; range = x }) ∷ readings n rs v else readings n rs v) ≡ [] → readings n rs v ≡ []
reading_rest n x rs v true h = absurd (cc)
reading_rest n x rs v false h = h

none_read : (n : ℕ) (rs : List BitRange) (v : ℕ) → readings n rs v ≡ [] → (r : BitRange) → Contains rs r → r.signal ≡ v → ⊥
none_read n [] v h = λ r c s. omega (arith, c.1)
none_read n (x ∷ rs) v h = reading_more n x rs v (is_of v x) refl h (none_read n rs v (reading_rest n x rs v (is_of v x) h))

reading_none : (n : ℕ) (x : BitRange) (rs : List BitRange) (v : ℕ) (b : Bool) → is_of v x ≡ b → (HasSignal (x ∷ rs) v → ⊥) → readings n rs v ≡ [] →
    (if b then (record { assign = n; range = x }) ∷ readings n rs v else readings n rs v) ≡ []
reading_none n x rs v true e h rest = absurd (h (x, first_in x rs, eqb-true x.signal v e))
reading_none n x rs v false e h rest = rest

read_none : (n : ℕ) (rs : List BitRange) (v : ℕ) → (HasSignal rs v → ⊥) → readings n rs v ≡ []
read_none n [] v h = refl
read_none n (x ∷ rs) v h = reading_none n x rs v (is_of v x) refl h (read_none n rs v (λ y. h (y.0, later_in x rs y.0 y.1, y.2)))

left_none : (xs ys : List Reader) → xs ++ ys ≡ [] → xs ≡ []
left_none [] ys h = refl
left_none (x ∷ xs) ys h = absurd (cc)

right_none : (xs ys : List Reader) → xs ++ ys ≡ [] → ys ≡ []
right_none [] ys h = h
right_none (x ∷ xs) ys h = absurd (cc)

both_none : (xs ys : List Reader) → xs ≡ [] → ys ≡ [] → xs ++ ys ≡ []
both_none xs ys e f = ap (λ zs. zs ++ ys) e ∙ f

-- no continuous assignment of a list reads the signal
abbrev pub NoneReads : List Assign → ℕ → Type 0
NoneReads assigns v = (j : ℕ) (a : Assign) → slice_get assigns j ≡ Some a → HasSignal (reads a.source) v → ⊥

none_from : (n : ℕ) (assigns : List Assign) (v : ℕ) → readers_from n assigns v ≡ [] → NoneReads assigns v
none_from n [] v h j a is w = none-some a is
none_from n (x ∷ rest) v h zero a is w =
    let y : HasSignal (reads x.source) v = subst (λ (b : Assign). HasSignal (reads b.source) v) (sym (same_Some x a is)) w in
    none_read n (reads x.source) v (left_none (readings n (reads x.source) v) (readers_from (suc n) rest v) h) y.0 y.1 y.2
none_from n (x ∷ rest) v h (suc j) a is w = none_from (suc n) rest v (right_none (readings n (reads x.source) v) (readers_from (suc n) rest v) h) j a is w

from_none : (n : ℕ) (assigns : List Assign) (v : ℕ) → NoneReads assigns v → readers_from n assigns v ≡ []
from_none n [] v h = refl
from_none n (x ∷ rest) v h =
    both_none (readings n (reads x.source) v) (readers_from (suc n) rest v) (read_none n (reads x.source) v (h 0 x refl)) (from_none (suc n) rest v (λ j. h (suc j)))

pub no_readers : (d : Parts) (v : ℕ) →
    ((readers d.assigns v ≡ []) ↔ ((j : ℕ) (a : Assign) → slice_get d.assigns j ≡ Some a → ListsSignal d (reads a.source) v → ⊥))
no_readers d v = (
  λ h j a is w. none_from 0 d.assigns v h j a is ((lists_signal d (reads a.source) v).1 w),
  λ f. from_none 0 d.assigns v (λ j a is w. f j a is ((lists_signal d (reads a.source) v).0 w)),
)

-- ---- tests of rows

pub is_empty : (rs : List Reader) (b : Bool) → b ≡ (length rs == 0) → (IsTrue b ↔ (rs ≡ []))
is_empty [] b e = (λ h. refl, λ f. e)
is_empty (x ∷ rs) b e = (λ h. absurd (omega (arith, eqb-true (length (x ∷ rs)) 0 (sym e ∙ h))), λ f. absurd (cc))
