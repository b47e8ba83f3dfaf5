-- Which signals are sources, and which drivers hold the others.
use Rattle.std.proofs.Common.{◌≡◌, ℕ, zero, suc, ◌<◌, ◌⊎◌, Bool, true, false, length, sym, ◌∙◌, ap, subst, inl, inr, arith}
use Rattle.std.specs.List.{list_any}
use Rattle.std.proofs.lemmas.Bool.{cases_Bool, cases_eq, cases_lt, false_from_ne_true, true≢false, true_from_ne_false}
use Rattle.std.proofs.lemmas.Option.{slice_get_past}
use Rattle.vs_design.specs.Parts.{Parts}
use Rattle.vs_design.specs.Stores.{Store, is_changed, is_driven, put, start_store}
use Rattle.vs_design.specs.Writes.{Write}
use Rattle.vs_process.specs.ThreadLaws.{LiesIn}
use Rattle.vs_process.proofs.Stores.{shape, shape-put}
use Rattle.vs_process.proofs.Values.{same_unchanged}
use Rattle.vs_design.specs.declared.range.BitRange.{BitRange}
use Rattle.vs_design.specs.Uses.{covers, is_of}
use Rattle.std.proofs.lemmas.Map.Keys.{any_passes_from_place as at_any}
use Rattle.vs_design.specs.vs_logic4.proofs.Basics.{element_of as any_at}
use Rattle.vs_process.proofs.Ranges.{same_content}
use Rattle.vs_process.specs.Bits.{HasBit, meet_in}
use Rattle.vs_process.proofs.Bits.{by_bit, meets_bit, meets_of}
use Rattle.vs_process.specs.BlockDrivers.{outputs, outputs_for, puts_into, puts_out, IsSource}

-- a block that writes a signal
abbrev pub HasBlock : Parts → (ℕ → Bool) → ℕ → Type 0
HasBlock d blocks v = (k : ℕ) × (blocks k ≡ true) × (puts_out d k v ≡ true)

searched : (d : Parts) (blocks : ℕ → Bool) (v n : ℕ) → HasBlock d blocks v ⊎ ((k : ℕ) → k < n → blocks k ≡ true → puts_out d k v ≡ false)
searched d blocks v zero = inr (λ k lt is. absurd (omega (arith, lt)))
searched d blocks v (suc n) = by_rest (searched d blocks v n) (cases_Bool (blocks n)) (cases_Bool (puts_out d n v))
  where
    Rest : Type 0
    Rest = (k : ℕ) → k < n → blocks k ≡ true → puts_out d k v ≡ false

    more : Rest → (blocks n ≡ true → puts_out d n v ≡ false) → (k : ℕ) → k < suc n → blocks k ≡ true → puts_out d k v ≡ false
    more rest last k lt is =
        elim (cases_eq k n) [
          | inl e ↦ subst (λ m. puts_out d m v ≡ false) (sym e) (last (ap blocks (sym e) ∙ is))
          | inr ne ↦ rest k (omega (arith, lt, ne)) is
        ]

    by_rest : (HasBlock d blocks v ⊎ Rest) → ((blocks n ≡ true) ⊎ (blocks n ≡ false)) → ((puts_out d n v ≡ true) ⊎ (puts_out d n v ≡ false)) →
        HasBlock d blocks v ⊎ ((k : ℕ) → k < suc n → blocks k ≡ true → puts_out d k v ≡ false)
    by_rest (inl found) one other = inl found
    by_rest (inr rest) (inl is) (inl hit) = inl (n, is, hit)
    by_rest (inr rest) (inl is) (inr miss) = inr (more rest (λ h. miss))
    by_rest (inr rest) (inr off) other = inr (more rest (λ h. absurd (true≢false (sym h ∙ off))))

-- a signal is a source, or is driven, or a block writes it
pub held : (d : Parts) (blocks : ℕ → Bool) (v : ℕ) → IsSource d blocks v ⊎ ((is_driven d.assigns v ≡ true) ⊎ HasBlock d blocks v)
held d blocks v = by_cases (cases_Bool (is_driven d.assigns v)) (searched d blocks v (length d.processes))
  where
    past : (k : ℕ) → (k < length d.processes → blocks k ≡ true → puts_out d k v ≡ false) → blocks k ≡ true → puts_out d k v ≡ false
    past k none is =
        elim (cases_lt k (length d.processes)) [
          | inl lt ↦ none lt is
          | inr le ↦ ap (λ o. list_any (is_of v) (outputs_for o)) (slice_get_past d.processes k le)
        ]

    by_cases : ((is_driven d.assigns v ≡ true) ⊎ (is_driven d.assigns v ≡ false)) → (HasBlock d blocks v ⊎ ((k : ℕ) → k < length d.processes → blocks k ≡ true → puts_out d k v ≡ false)) →
        IsSource d blocks v ⊎ ((is_driven d.assigns v ≡ true) ⊎ HasBlock d blocks v)
    by_cases (inl hit) other = inr (inl hit)
    by_cases (inr miss) (inl found) = inr (inr found)
    by_cases (inr miss) (inr none) = inl (record { undriven = miss; unwritten = λ k. past k (none k) })

-- a block writes into a range of which it covers a bit of the design
pub puts_covered : (d : Parts) (k : ℕ) (r : BitRange) (v w n : ℕ) → HasBit d v w n → list_any (covers v w n) (outputs d k) ≡ true → covers v w n r ≡ true → puts_into d k r ≡ true
puts_covered d k r v w n bit h g =
    let found = any_at (covers v w n) (outputs d k) h in
    at_any (λ (q : BitRange). meet_in d q r) (outputs d k) found.0 found.1 found.2 (meets_bit d v w n found.1 r bit found.3 g)

-- what a write that lies in what a block writes changes, the block writes into
pub changed_puts : (d : Parts) (k : ℕ) (store : Store) → shape store ≡ shape (start_store d) → (w : Write) (r : BitRange) → LiesIn (outputs d k) w → is_changed store (put store w) r ≡ true → puts_into d k r ≡ true
changed_puts d k store started w r lies changed = true_from_ne_false (puts_into d k r) (λ none.
    true≢false (sym changed ∙ same_unchanged store new r (sym (same_content new store r sized (λ n i at_r. by_bit d new store (sized ∙ started) sized r.signal n i (λ bit.
    lies.digits store r.signal n i (uncovered none n i bit at_r)))))))
  where
    new : Store
    new = put store w

    sized : shape new ≡ shape store
    sized = shape-put store w

    uncovered : puts_into d k r ≡ false → (n i : ℕ) → HasBit d r.signal n i → covers r.signal n i r ≡ true → list_any (covers r.signal n i) (outputs d k) ≡ false
    uncovered none n i bit at_r = false_from_ne_true (list_any (covers r.signal n i) (outputs d k)) (λ h. true≢false (sym (puts_covered d k r r.signal n i bit h at_r) ∙ none))

-- a block that writes into a range writes its signal
pub into_puts : (d : Parts) (k : ℕ) (r : BitRange) → puts_into d k r ≡ true → puts_out d k r.signal ≡ true
into_puts d k r h =
    let found = any_at (λ (q : BitRange). meet_in d q r) (outputs d k) h in
    at_any (is_of r.signal) (outputs d k) found.0 found.1 found.2 (meets_of d found.1 r found.3)
