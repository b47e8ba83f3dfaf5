-- A value depends on what its expression reads alone.
use Rattle.std.proofs.Common.{◌≡◌, ℕ, ℤ, ◌||◌, ◌&&◌, not, true, false, Option, Some, None, List, [], ◌∷◌, ◌++◌, map, take, slice_get, refl, sym, ◌∙◌, ap, ap₂, subst}
use Rattle.std.specs.List.{list_any}
use Rattle.std.proofs.lemmas.List.Folds.{list_any-append}
use Rattle.vs_design.specs.vs_logic4.specs.declared.digit.Digit.{Digit}
use Rattle.vs_design.specs.vs_logic4.specs.Operators.{unary}
use Rattle.vs_design.specs.vs_logic4.specs.Sameness.{same_digits-true}
use Rattle.vs_design.specs.vs_logic4.specs.Parts.{replication}
use Rattle.vs_design.specs.vs_logic4.specs.Vectors.{same_digits, resized}
use Rattle.vs_design.specs.declared.expression.Link.{Link}
use Rattle.vs_design.specs.declared.expression.Typed.{Typed, Typed-F, fold-roll-Typed, map-Typed, ind-Typed, roll-Typed}
use Rattle.vs_design.specs.declared.expression.Typed.TheOpen as t
use Rattle.vs_design.specs.declared.range.BitRange.{BitRange}
use Rattle.vs_design.specs.Stores.{Store, word_of, word_in, words_in, one_word, chosen_bits, same_words, is_changed}
use Rattle.vs_design.specs.declared.expression.Slice.{Slice}
use Rattle.vs_design.specs.Selects.{place_of, word_place}
use Rattle.vs_design.specs.Uses.{reads, reads_step, joined, whole, all_words, slice_range, bits_from}
use Rattle.vs_eval.specs.Values.{value_of, value_step, operand_value, bits_value, selection_value, excerpt_value, chained, chosen, concatenated}
use Rattle.vs_eval.proofs.Digits.{selected_kept}
use Rattle.vs_design.proofs.Stores.{word_in-words, same_signal}
use Rattle.vs_design.specs.vs_logic4.proofs.Basics.{and_left, and_right, map_twice as map_map, not_false, right_false, left_false}

same_one : (a b : Option (List Digit)) → same_words (map (chosen_bits None) (one_word a)) (map (chosen_bits None) (one_word b)) ≡ true → a ≡ b
same_one None None h = refl
same_one None (Some y) h = cc
same_one (Some x) None h = cc
same_one (Some x) (Some y) h = ap Some (same_digits-true x y (and_left (same_digits x y) true h))

-- stores that agree on the whole of a signal have one word 0 of it
word_kept : (old new : Store) (signal : ℕ) → list_any (is_changed old new) (whole signal ∷ []) ≡ false → word_of old signal 0 ≡ word_of new signal 0
word_kept old new signal h =
    word_in-words (slice_get old signal) 0
    ∙ same_one (slice_get (words_in (slice_get old signal)) 0) (slice_get (words_in (slice_get new signal)) 0) (not_false _ (left_false (is_changed old new (whole signal)) false h))
    ∙ sym (word_in-words (slice_get new signal) 0)

same_bits : (low : ℤ) (width : ℕ) (a b : Option (List Digit)) → same_words (map (chosen_bits (Some (bits_from low width))) (one_word a)) (map (chosen_bits (Some (bits_from low width))) (one_word b)) ≡ true →
    bits_value low width a ≡ bits_value low width b
same_bits low width None None h = refl
same_bits low width None (Some y) h = cc
same_bits low width (Some x) None h = cc
same_bits low width (Some x) (Some y) h =
    selected_kept low width x y (same_digits-true _ _ (and_left (same_digits (chosen_bits (Some (bits_from low width)) x) (chosen_bits (Some (bits_from low width)) y)) true h))

-- stores that agree on the bits of a slice have one value of it
bits_kept : (old new : Store) (s : Slice) → list_any (is_changed old new) (slice_range s ∷ []) ≡ false →
    bits_value s.low s.width (word_of old s.signal s.word) ≡ bits_value s.low s.width (word_of new s.signal s.word)
bits_kept old new s h =
    ap (bits_value s.low s.width) (word_in-words (slice_get old s.signal) s.word)
    ∙ same_bits s.low s.width (slice_get (words_in (slice_get old s.signal)) s.word) (slice_get (words_in (slice_get new s.signal)) s.word) (not_false _ (left_false (is_changed old new (slice_range s)) false h))
    ∙ ap (bits_value s.low s.width) (sym (word_in-words (slice_get new s.signal) s.word))

module _ (old new : Store) (time : ℕ) where
  -- an expression with one value in both stores, where they agree on what it reads
  abbrev pub Same : Typed → Type 0
  Same e = list_any (is_changed old new) (reads e) ≡ false → value_of e old time ≡ value_of e new time

  pub first_kept : (front back : List BitRange) → list_any (is_changed old new) (front ++ back) ≡ false → list_any (is_changed old new) front ≡ false
  first_kept front back h = left_false (list_any (is_changed old new) front) (list_any (is_changed old new) back) (sym (list_any-append (is_changed old new) front back) ∙ h)

  pub rest_kept : (front back : List BitRange) → list_any (is_changed old new) (front ++ back) ≡ false → list_any (is_changed old new) back ≡ false
  rest_kept front back h = right_false (list_any (is_changed old new) front) (list_any (is_changed old new) back) (sym (list_any-append (is_changed old new) front back) ∙ h)

  abbrev bare : (e : Typed) × Same e → Typed
  bare e = e.0

  abbrev bare_link : Link × ((e : Typed) × Same e) → Link × Typed
  bare_link l = (l.0, l.1.0)

  abbrev bare_pair : ((e : Typed) × Same e) × ((e : Typed) × Same e) → Typed × Typed
  bare_pair p = (p.0.0, p.1.0)

  abbrev read_of_link : Link × Typed → Link × List BitRange
  read_of_link l = (l.0, reads l.1)

  abbrev read_of_pair : Typed × Typed → List BitRange × List BitRange
  read_of_pair p = (reads p.0, reads p.1)

  abbrev value_at : Store → Typed → List Digit
  value_at store e = value_of e store time

  abbrev link_at : Store → Link × Typed → Link × List Digit
  link_at store l = (l.0, value_of l.1 store time)

  abbrev pair_at : Store → Typed × Typed → List Digit × List Digit
  pair_at store p = (value_of p.0 store time, value_of p.1 store time)

  -- the elements of a list, each of which has one value in both stores where they agree on what it reads
  each_kept : {T V : Type 0} (read : T → List BitRange) (f g : T → V) → ((x : T) → list_any (is_changed old new) (read x) ≡ false → f x ≡ g x) →
      (xs : List T) → list_any (is_changed old new) (joined (map read xs)) ≡ false → map f xs ≡ map g xs
  each_kept read f g each [] h = refl
  each_kept read f g each (x ∷ xs) h =
      ap₂ (λ v vs. v ∷ vs) (each x (first_kept (read x) (joined (map read xs)) h)) (each_kept read f g each xs (rest_kept (read x) (joined (map read xs)) h))

  -- the operands behind the first one of a chain
  links_kept : (links : List (Link × ((e : Typed) × Same e))) →
      list_any (is_changed old new) (joined (map (λ (l : Link × List BitRange). l.1) (map read_of_link (map bare_link links)))) ≡ false →
      map (link_at old) (map bare_link links) ≡ map (link_at new) (map bare_link links)
  links_kept links h =
      map_map (link_at old) bare_link links
      ∙ each_kept (λ l. reads l.1.0) (λ l. link_at old (bare_link l)) (λ l. link_at new (bare_link l)) (λ l none. ap (λ v. (l.0, v)) (l.1.1 none)) links
      (ap (λ rs. list_any (is_changed old new) (joined rs)) (sym (ap (map (λ (l : Link × List BitRange). l.1)) (map_map read_of_link bare_link links) ∙ map_map (λ (l : Link × List BitRange). l.1) (λ l. read_of_link (bare_link l)) links)) ∙ h)
      ∙ sym (map_map (link_at new) bare_link links)

  -- the conditions and operands of a `?:`
  pairs_kept : (pairs : List (((e : Typed) × Same e) × ((e : Typed) × Same e))) →
      list_any (is_changed old new) (joined (map (λ (p : List BitRange × List BitRange). p.0 ++ p.1) (map read_of_pair (map bare_pair pairs)))) ≡ false →
      map (pair_at old) (map bare_pair pairs) ≡ map (pair_at new) (map bare_pair pairs)
  pairs_kept pairs h =
      map_map (pair_at old) bare_pair pairs
      ∙ each_kept (λ p. reads p.0.0 ++ reads p.1.0) (λ p. pair_at old (bare_pair p)) (λ p. pair_at new (bare_pair p))
      (λ p none. ap₂ (λ v w. (v, w)) (p.0.1 (first_kept (reads p.0.0) (reads p.1.0) none)) (p.1.1 (rest_kept (reads p.0.0) (reads p.1.0) none))) pairs
      (ap (λ rs. list_any (is_changed old new) (joined rs)) (sym (ap (map (λ (p : List BitRange × List BitRange). p.0 ++ p.1)) (map_map read_of_pair bare_pair pairs) ∙ map_map (λ (p : List BitRange × List BitRange). p.0 ++ p.1) (λ p. read_of_pair (bare_pair p)) pairs)) ∙ h)
      ∙ sym (map_map (pair_at new) bare_pair pairs)

  -- the parts behind the first one of a concatenation
  parts_kept : (parts : List ((e : Typed) × Same e)) → list_any (is_changed old new) (joined (map reads (map bare parts))) ≡ false →
      map (value_at old) (map bare parts) ≡ map (value_at new) (map bare parts)
  parts_kept parts h =
      map_map (value_at old) bare parts
      ∙ each_kept (λ e. reads e.0) (λ e. value_at old e.0) (λ e. value_at new e.0) (λ e. e.1) parts
      (ap (λ rs. list_any (is_changed old new) (joined rs)) (sym (map_map reads bare parts)) ∙ h)
      ∙ sym (map_map (value_at new) bare parts)

  inner : (y : Typed-F ((e : Typed) × Same e)) →
      list_any (is_changed old new) (reads_step (map-Typed Typed (List BitRange) reads (map-Typed ((e : Typed) × Same e) Typed (λ e. e.0) y))) ≡ false →
      value_step old time (map-Typed Typed (List Digit) (λ e. value_of e old time) (map-Typed ((e : Typed) × Same e) Typed (λ e. e.0) y))
      ≡ value_step new time (map-Typed Typed (List Digit) (λ e. value_of e new time) (map-Typed ((e : Typed) × Same e) Typed (λ e. e.0) y))
  inner (t.Number digits) h = refl
  inner (t.Signal o) h = ap (operand_value o.signed o.width) (word_kept old new o.signal h)
  inner (t.Slice s) h = bits_kept old new s h
  inner (t.Select s word low) h =
      let indices : list_any (is_changed old new) (reads word.value.0 ++ reads low.value.0) ≡ false =
      right_false (is_changed old new (all_words s.signal)) (list_any (is_changed old new) (reads word.value.0 ++ reads low.value.0)) h in
      let w = value_of word.value.0 new time in
      ap₂ (selection_value s old)
      (word.value.1 (first_kept (reads word.value.0) (reads low.value.0) indices)) (low.value.1 (rest_kept (reads word.value.0) (reads low.value.0) indices))
      ∙ ap (bits_value (place_of s.bits s.width (value_of low.value.0 new time)) s.width)
      (same_signal old new s.signal (word_place s.words w) (left_false (is_changed old new (all_words s.signal)) (list_any (is_changed old new) (reads word.value.0 ++ reads low.value.0)) h))
  inner (t.Excerpt s low) h = ap (excerpt_value s) (low.value.1 h)
  inner (t.Unary op x) h = ap (unary op) (x.value.1 h)
  inner (t.Chain x links) h =
      let others = joined (map (λ (l : Link × List BitRange). l.1) (map read_of_link (map bare_link links.items))) in
      ap₂ chained (x.value.1 (first_kept (reads x.value.0) others h)) (links_kept links.items (rest_kept (reads x.value.0) others h))
  inner (t.Choice pairs last) h =
      let others = joined (map (λ (p : List BitRange × List BitRange). p.0 ++ p.1) (map read_of_pair (map bare_pair pairs.items))) in
      ap₂ chosen (pairs_kept pairs.items (first_kept others (reads last.value.0) h)) (last.value.1 (rest_kept others (reads last.value.0) h))
  inner (t.Concat x parts) h =
      let others = joined (map reads (map bare parts.items)) in
      ap₂ concatenated (x.value.1 (first_kept (reads x.value.0) others h)) (parts_kept parts.items (rest_kept (reads x.value.0) others h))
  inner (t.Repeat n x) h = ap (λ v. take 64 (replication n.times v)) (x.value.1 h)
  inner (t.Resized size x) h = ap (resized size.signed size.width) (x.value.1 h)

  layer : (y : Typed-F ((e : Typed) × Same e)) → Same (roll-Typed (map-Typed ((e : Typed) × Same e) Typed (λ e. e.0) y))
  layer y h =
      let x : Typed-F Typed = map-Typed ((e : Typed) × Same e) Typed (λ e. e.0) y in
      fold-roll-Typed (List Digit) (value_step old time) x
      ∙ inner y (sym (ap (list_any (is_changed old new)) (fold-roll-Typed (List BitRange) reads_step x)) ∙ h)
      ∙ sym (fold-roll-Typed (List Digit) (value_step new time) x)

  -- stores that agree on what an expression reads give it one value
  pub value_kept : (e : Typed) → Same e
  value_kept e = ind-Typed Same (λ x y is. subst (λ z. Same (roll-Typed z)) is (layer y)) e
