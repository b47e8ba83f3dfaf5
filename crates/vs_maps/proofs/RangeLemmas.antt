-- Lists of ranges.
use Rattle.std.proofs.Common.{◌≡◌, ℕ, zero, suc, ◌==◌, ◌||◌, ◌⊎◌, ◌↔◌, inl, inr, Bool, true, false, IsTrue, List, [], ◌∷◌, refl, sym, ◌∙◌, ap, arith}
use Rattle.std.specs.List.{Contains, list_any}
use Rattle.std.proofs.lemmas.Bool.{false≢true, eq-eqb, eqb-true, or_right}
use Rattle.vs_design.specs.declared.range.BitRange.{BitRange}
use Rattle.vs_design.specs.Parts.{Parts}
use Rattle.vs_design.specs.Uses.{is_of}
use Rattle.vs_rules.specs.Paths.{ListsSignal}
use Rattle.vs_graph.proofs.RowLemmas.{head_in}
use Rattle.vs_maps.specs.Ranges.{HasSignal}

pub later_in : {A : Type 0} (x : A) (xs : List A) (y : A) → Contains xs y → Contains (x ∷ xs) y
later_in x xs y h = (suc h.0, omega (arith, h.1), h.2)

pub in_either : {A : Type 0} (x : A) (xs : List A) (y : A) → Contains (x ∷ xs) y → (x ≡ y) ⊎ Contains xs y
in_either x xs y (zero, l, e) = inl e
in_either x xs y (suc n, l, e) = inr (n, omega (arith, l), e)

found : (r : BitRange) (rs : List BitRange) (v : ℕ) (b : Bool) → (r.signal == v) ≡ b → (list_any (is_of v) rs ≡ true → HasSignal rs v) →
    (b || list_any (is_of v) rs) ≡ true → HasSignal (r ∷ rs) v
found r rs v true e more h = (r, head_in r rs, eqb-true r.signal v e)
found r rs v false e more h = let y = more h in (y.0, later_in r rs y.0 y.1, y.2)

any_has : (rs : List BitRange) (v : ℕ) → list_any (is_of v) rs ≡ true → HasSignal rs v
any_has [] v h = absurd (false≢true h)
any_has (r ∷ rs) v h = found r rs v (r.signal == v) refl (any_has rs v) h

has_any : (rs : List BitRange) (v : ℕ) (r : BitRange) → Contains rs r → r.signal ≡ v → list_any (is_of v) rs ≡ true
has_any [] v r h e = absurd (omega (arith, h.1))
has_any (x ∷ rs) v r h e = elim (in_either x rs r h) [
  | inl s ↦ ap (λ (b : Bool). b || list_any (is_of v) rs) (eq-eqb x.signal v (ap (λ (y : BitRange). y.signal) s ∙ e))
  | inr l ↦ or_right (is_of v x) (list_any (is_of v) rs) (has_any rs v r l e)
]

-- a test of a list, as what it tells
pub has_signal : (rs : List BitRange) (v : ℕ) (b : Bool) → b ≡ list_any (is_of v) rs → (IsTrue b ↔ HasSignal rs v)
has_signal rs v b e = (λ h. any_has rs v (sym e ∙ h), λ y. e ∙ has_any rs v y.0 y.1 y.2)

-- a list has a range of a signal, in a rule's words
pub lists_signal : (d : Parts) (rs : List BitRange) (v : ℕ) → (HasSignal rs v ↔ ListsSignal d rs v)
lists_signal d rs v = (λ y. record { range = y.0; listed = (y.1, tt); of = y.2 }, λ h. (h.range, h.listed.0, h.of))
