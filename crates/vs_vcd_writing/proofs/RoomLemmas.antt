-- Room to compare in.
use Rattle.std.proofs.Common.{◌≡◌, ℕ, ◌+◌, ◌<◌, ◌≤◌, Some, List, length, slice_get, sym, ap, ◌∙◌, inl, inr, arith}
use Rattle.std.specs.Prelude.{Result, Ok, Err, OnOk, slice_set}
use Rattle.std.proofs.lemmas.Bool.{cases_lt}
use Rattle.vs_design.specs.vs_logic4.specs.declared.digit.Digit.{Digit}
use Rattle.vs_design.specs.Stores.{Store}
use Rattle.vs_design.specs.vs_logic4.proofs.Basics.{set_here as get_set_same}
use Rattle.vs_vcd_writing.specs.Values.{shown_value}
use Rattle.vs_vcd_writing.proofs.PlanesLemmas.{get_set_other}

-- the word of one signal more
pub gather_more : (old new : List (List Digit)) (store : Store) (from i : ℕ) (w : List Digit) → i < length old → new ≡ slice_set old i w → w ≡ shown_value store i
    → ((k : ℕ) → from ≤ k → k < i → slice_get old k ≡ Some (shown_value store k)) → (k : ℕ) → from ≤ k → k < i + 1 → slice_get new k ≡ Some (shown_value store k)
gather_more old new store from i w within is value before k ge lt =
    ap (λ l. slice_get l k) is
    ∙ elim (cases_lt k i) [
      | inl near ↦ get_set_other old i k w (λ e. omega (arith, near, e)) ∙ before k ge near
      | inr far ↦
          let at : k ≡ i = omega (arith, far, lt) in
          ap (slice_get (slice_set old i w)) at ∙ get_set_same old i w within ∙ ap Some (value ∙ sym (ap (shown_value store) at))
    ]

-- ---- answers

pub OnOk-from : {A E : Type 0} (P Q : Type 0) (r : Result A E) → (P → Q) → OnOk r P → OnOk r Q
OnOk-from P Q (Ok x) f h = f h
OnOk-from P Q (Err e) f h = h
