-- What the target of an assignment writes into, and what its write changes.
use Rattle.std.proofs.Common.{◌≡◌, ℕ, true, false, List, sym, ◌∙◌}
use Rattle.std.specs.List.{list_any}
use Rattle.std.proofs.lemmas.Bool.{true≢false, false_from_ne_true, true_from_ne_false}
use Rattle.vs_design.specs.vs_logic4.specs.declared.digit.Digit.{Digit}
use Rattle.vs_design.specs.declared.range.BitRange.{BitRange}
use Rattle.vs_design.specs.declared.statement.Target.{Target}
use Rattle.vs_design.specs.Parts.{Parts}
use Rattle.vs_design.specs.Stores.{Store, put, is_changed, start_store}
use Rattle.vs_design.specs.Uses.{covers, is_of, writes, writes_signal}
use Rattle.vs_process.proofs.Digits.{kept_digit}
use Rattle.std.proofs.lemmas.Map.Keys.{any_passes_from_place as at_any}
use Rattle.vs_design.specs.vs_logic4.proofs.Basics.{element_of as any_at}
use Rattle.vs_process.proofs.Ranges.{IsFixed, fixed_write, same_content, uncovered_keeps}
use Rattle.vs_process.proofs.Stores.{shape, shape-put}
use Rattle.vs_process.proofs.Values.{same_unchanged}
use Rattle.vs_process.specs.Bits.{HasBit, meet_in}
use Rattle.vs_process.specs.Feeds.{writes_into}
use Rattle.vs_process.proofs.Bits.{by_bit, meets_bit, meets_of}

-- a target and a range that cover one bit of the design
pub into_covered : (d : Parts) (t : Target) (r : BitRange) (v w k : ℕ) → HasBit d v w k → list_any (covers v w k) (writes t) ≡ true → covers v w k r ≡ true → writes_into d t r ≡ true
into_covered d t r v w k bit h g =
    let found = any_at (covers v w k) (writes t) h in
    at_any (λ (q : BitRange). meet_in d q r) (writes t) found.0 found.1 found.2 (meets_bit d v w k found.1 r bit found.3 g)

-- a target names the signal of what it writes into
pub into_named : (d : Parts) (t : Target) (r : BitRange) → writes_into d t r ≡ true → writes_signal t r.signal ≡ true
into_named d t r h =
    let found = any_at (λ (q : BitRange). meet_in d q r) (writes t) h in
    at_any (is_of r.signal) (writes t) found.0 found.1 found.2 (meets_of d found.1 r found.3)

-- what the write to a target changes, the target writes into
pub changed_into : (d : Parts) (store : Store) → shape store ≡ shape (start_store d) → (t : Target) (digits : List Digit) (r : BitRange) → IsFixed t → is_changed store (put store (fixed_write t digits)) r ≡ true →
    writes_into d t r ≡ true
changed_into d store started t digits r fixed changed = true_from_ne_false (writes_into d t r) (λ none.
    true≢false (sym changed ∙ same_unchanged store new r (sym (same_content new store r sized (λ w k at_r. by_bit d new store (sized ∙ started) sized r.signal w k (λ bit.
    kept_digit store (fixed_write t digits) r.signal w k (uncovered_keeps t digits r.signal w k fixed (uncovered none w k bit at_r))))))))
  where
    new : Store
    new = put store (fixed_write t digits)

    sized : shape new ≡ shape store
    sized = shape-put store (fixed_write t digits)

    uncovered : writes_into d t r ≡ false → (w k : ℕ) → HasBit d r.signal w k → covers r.signal w k r ≡ true → list_any (covers r.signal w k) (writes t) ≡ false
    uncovered none w k bit at_r = false_from_ne_true (list_any (covers r.signal w k) (writes t)) (λ h. true≢false (sym (into_covered d t r r.signal w k bit h at_r) ∙ none))
