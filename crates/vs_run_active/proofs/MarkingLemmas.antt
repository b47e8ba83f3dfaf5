-- Marks of the signals that words are of.
use Rattle.std.proofs.Common.{◌≡◌, ℕ, zero, suc, ◌*◌, ◌/◌, ◌%◌, ◌^◌, ◌<◌, ◌==◌, ◌||◌, ◌⊎◌, inl, inr, Bool, true, false, if◌then◌else◌, List, [], ◌∷◌, length, get_or, slice_set, refl, sym, ◌∙◌, ap, ap₂, subst, arith}
use Rattle.std.specs.Prelude.{replicate, slice_index}
use Rattle.std.specs.Int.{bit_at}
use Rattle.std.specs.Int.Bits.{bit_or}
use Rattle.std.proofs.lemmas.Bool.{cases_Bool, cases_eq, eq-eqb, eqb-true, ne_eqb, eqb-false, false≢true}
use Rattle.std.proofs.lemmas.List.{get_or-set_same, get_or-set_other, get_or_read_under}
use Rattle.std.proofs.lemmas.Nat.{one_shl}
use Rattle.std.proofs.lemmas.Nat.Bits.{bit_at_or, bit_at-zero, bit_at-lt, bit_at-pow_same}
use Rattle.vs_design.specs.vs_logic4.specs.declared.digit.Digit.{Digit}
use Rattle.vs_design.specs.vs_logic4.specs.Vectors.{same_digits}
use Rattle.vs_design.specs.Stores.{Store}
use Rattle.vs_process.specs.declared.changes.Change.{Change}
use Rattle.vs_process.specs.Changes.{changed_word}
use Rattle.std.specs.Prelude.{Some}
use Rattle.vs_vcd_writing.specs.Marks.{is_block_marked, is_marked}
use Rattle.vs_run_active.specs.Changes.{MarkChanges, MarkWords}
use Rattle.vs_run_active.proofs.ChangesLemmas.{is_among}

-- ---- words of marks

-- where each word is 0 nothing is marked
pub unmarked : (marks : List ℕ) → ((i : ℕ) → slice_index marks i ≡ 0) → (v : ℕ) → is_marked marks v ≡ false
unmarked marks none v = ap (λ (n : ℕ). bit_at n (v / 8 % 64) == 1) (none (v / 8 / 64)) ∙ ap (λ (b : ℕ). b == 1) (bit_at-zero (v / 8 % 64))

pub zeros : (n i : ℕ) → slice_index (replicate n 0) i ≡ 0
zeros zero i = refl
zeros (suc n) zero = refl
zeros (suc n) (suc i) = zeros n i

-- a block whose bit is set
pub set_mark : (marks new : List ℕ) (block : ℕ) → slice_index new (block / 64) ≡ bit_or (slice_index marks (block / 64)) (2 ^ (block % 64)) → is_block_marked new block ≡ true
set_mark marks new block is =
    let k = block % 64 in
    let old = slice_index marks (block / 64) in
    let set : bit_at (bit_or old (2 ^ k)) k ≡ 1 = omega (arith, bit_at_or old (2 ^ k) k, bit_at-pow_same k, bit_at-lt old k) in
    ap (λ (n : ℕ). bit_at n k == 1) is ∙ eq-eqb (bit_at (bit_or old (2 ^ k)) k) 1 set

-- the other blocks keep their marks
pub keep_marks : (marks new : List ℕ) (word bits other : ℕ) → slice_index new word ≡ bit_or (slice_index marks word) bits → ((i : ℕ) → (i ≡ word → ⊥) → slice_index new i ≡ slice_index marks i) →
    is_block_marked new other ≡ false → is_block_marked marks other ≡ false
keep_marks marks new word bits other is others off =
    let p = other % 64 in
    let old = slice_index marks word in
    elim (cases_eq (other / 64) word) [
      | inl e ↦
          let here : (bit_at (bit_or old bits) p == 1) ≡ false = sym (ap (λ (n : ℕ). bit_at n p == 1) (ap (slice_index new) e ∙ is)) ∙ off in
          let clear : bit_at old p ≡ 1 → ⊥ = λ h. eqb-false (bit_at (bit_or old bits) p) 1 here (omega (arith, bit_at_or old bits p, bit_at-lt bits p, h)) in
          ap (λ (i : ℕ). bit_at (slice_index marks i) p == 1) e ∙ ne_eqb (bit_at old p) 1 clear
      | inr apart ↦ sym (ap (λ (n : ℕ). bit_at n p == 1) (others (other / 64) apart)) ∙ off
    ]

-- the word of a block with its bit set
word_set : (marks : List ℕ) (block bits n : ℕ) → bits ≡ get_or marks (block / 64) bits → block / 64 < n → n ≡ length marks →
    slice_index (slice_set marks (block / 64) (bit_or bits (1 * 2 ^ (block % 64) % 2 ^ 64))) (block / 64) ≡ bit_or (slice_index marks (block / 64)) (2 ^ (block % 64))
word_set marks block bits n value below size =
    get_or-set_same marks (block / 64) (bit_or bits (1 * 2 ^ (block % 64) % 2 ^ 64)) 0 (omega (arith, below, size))
    ∙ ap₂ bit_or (get_or_read_under marks (block / 64) n bits 0 value below size) (one_shl (block % 64) 64 (omega arith))

pub marks_set : (marks : List ℕ) (signal bits n : ℕ) → bits ≡ get_or marks (signal / 8 / 64) bits → signal / 8 / 64 < n → n ≡ length marks →
    is_marked (slice_set marks (signal / 8 / 64) (bit_or bits (1 * 2 ^ (signal / 8 % 64) % 2 ^ 64))) signal ≡ true
marks_set marks signal bits n value below size = set_mark marks _ (signal / 8) (word_set marks (signal / 8) bits n value below size)

pub marks_kept : (marks : List ℕ) (signal bits n : ℕ) → bits ≡ get_or marks (signal / 8 / 64) bits → signal / 8 / 64 < n → n ≡ length marks →
    (other : ℕ) → is_marked (slice_set marks (signal / 8 / 64) (bit_or bits (1 * 2 ^ (signal / 8 % 64) % 2 ^ 64))) other ≡ false → is_marked marks other ≡ false
marks_kept marks signal bits n value below size other off =
    keep_marks marks (slice_set marks (signal / 8 / 64) (bit_or bits (1 * 2 ^ (signal / 8 % 64) % 2 ^ 64))) (signal / 8 / 64) (2 ^ (signal / 8 % 64)) (other / 8)
    (word_set marks (signal / 8) bits n value below size) (λ i apart. get_or-set_other marks (signal / 8 / 64) i _ 0 apart) off

-- ---- words, one after another

-- one more word is marked
pub marked_more : (old mid new : List ℕ) (c : Change) (left rest all : List Change) → left ≡ c ∷ rest → length mid ≡ length old →
    ((v : ℕ) → is_marked mid v ≡ false → (is_marked old v ≡ false) × (v < 512 * length old → is_among left v ≡ is_among all v)) →
    (c.signal < 512 * length mid → is_marked new c.signal ≡ true) → ((v : ℕ) → is_marked new v ≡ false → is_marked mid v ≡ false) →
    (v : ℕ) → is_marked new v ≡ false → (is_marked old v ≡ false) × (v < 512 * length old → is_among rest v ≡ is_among all v)
marked_more old mid new c left rest all next size before set others v off =
    let b = before v (others v off) in
    (b.0, λ within. by_number (cases_Bool (c.signal == v)) within (b.1 within))
  where
    by_number : ((c.signal == v) ≡ true) ⊎ ((c.signal == v) ≡ false) → v < 512 * length old → is_among left v ≡ is_among all v → is_among rest v ≡ is_among all v
    by_number (inl is) within e =
        let same : c.signal ≡ v = eqb-true c.signal v is in
        absurd (false≢true (sym off ∙ subst (λ (u : ℕ). is_marked new u ≡ true) same (set (omega (arith, same, within, size)))))
    by_number (inr apart) within e = sym (ap (λ (l : List Change). is_among l v) next ∙ ap (λ (t : Bool). t || is_among rest v) apart) ∙ e

-- a word that a write of one part has changed
pub marked_word : (old new : List ℕ) (signal word : ℕ) (before behind : List Digit) → length new ≡ length old → (signal < 512 * length old → is_marked new signal ≡ true) →
    ((v : ℕ) → is_marked new v ≡ false → is_marked old v ≡ false) → MarkWords old new (changed_word signal word (Some before) (Some behind))
marked_word old new signal word before behind len set others =
    record { len = len; marked = λ v off. (others v off, λ within. by_test v off within (same_digits before behind)) }
  where
    by_test : (v : ℕ) → is_marked new v ≡ false → v < 512 * length old → (b : Bool) →
        is_among (if b then [] else record { signal = signal; word = word; before = before; behind = behind } ∷ []) v ≡ false
    by_test v off within true = refl
    by_test v off within false = by_number (cases_Bool (signal == v))
      where
        by_number : ((signal == v) ≡ true) ⊎ ((signal == v) ≡ false) → ((signal == v) || false) ≡ false
        by_number (inl is) =
            let same : signal ≡ v = eqb-true signal v is in
            absurd (false≢true (sym off ∙ subst (λ (u : ℕ). is_marked new u ≡ true) same (set (omega (arith, same, within)))))
        by_number (inr apart) = ap (λ (t : Bool). t || false) apart

-- ---- moves, one after another

-- nothing has changed
pub changes_none : (marks : List ℕ) (s : Store) → MarkChanges marks marks s s
changes_none marks s = record { len = refl; marked = λ v off within. (off, refl) }

-- one more move
pub changes_more : (old mid new : List ℕ) (s t u : Store) → MarkChanges old mid s t → MarkChanges mid new t u → MarkChanges old new s u
changes_more old mid new s t u h k = record {
  len = k.len ∙ h.len;
  marked = λ v off within.
      let later = k.marked v off (omega (arith, within, h.len)) in
      let sooner = h.marked v later.0 within in
      (sooner.0, later.1 ∙ sooner.1);
}
