-- What the write of a target depends on, and what it keeps.
use Rattle.std.proofs.Common.{◌≡◌, ℕ, zero, suc, ◌+◌, ◌==◌, pos, ◌&&◌, Bool, true, false, Option, Some, None, List, [], ◌∷◌, length, map, option_map, slice_get, refl, sym, ◌∙◌, ap, ap₂, ⊎_elim}
use Rattle.std.specs.List.{list_any}
use Rattle.std.proofs.lemmas.Bool.{eqb-false}
use Rattle.std.proofs.lemmas.Bool.Decides.{eqb_tells}
use Rattle.vs_design.specs.vs_logic4.specs.declared.digit.Digit.{Digit}
use Rattle.vs_design.specs.vs_logic4.specs.Lengths.{length-selected}
use Rattle.vs_design.specs.vs_logic4.specs.Parts.{selected}
use Rattle.vs_design.specs.vs_logic4.proofs.Basics.{right_false as or_false_right, left_false as or_false_left}
use Rattle.vs_design.specs.declared.statement.Aim.{Aim}
use Rattle.vs_design.specs.declared.statement.Aim.TheVariants.{Fixed, Chosen}
use Rattle.vs_design.specs.declared.write.Part.{Part}
use Rattle.vs_design.specs.Selects.{place_of, word_place}
use Rattle.vs_design.specs.Stores.{Store, word_in, word_of, changed_at, put_part, put, overlaid, is_changed}
use Rattle.vs_design.specs.Uses.{aim_range, aim_reads, bits_from, has_bit, covers, joined, reads}
use Rattle.vs_design.specs.WellFormed.{aim_width}
use Rattle.vs_eval.specs.Laws.{digit_in, digit_of}
use Rattle.vs_eval.specs.Targets.{part_at, parts_from}
use Rattle.vs_eval.proofs.Digits.{outside_kept}
use Rattle.vs_eval.proofs.ReadsHold.{value_kept, first_kept, rest_kept}
use Rattle.vs_design.proofs.Stores.{slice_get-changed_at as get-changed_at, slice_get-changed_at_other as get-changed_at_other, word_changes, word_keeps}

-- ---- what it depends on

module _ (old new : Store) (time : ℕ) where
  part_same : (a : Aim) (digits : List Digit) → list_any (is_changed old new) (aim_reads a) ≡ false → part_at a digits old time ≡ part_at a digits new time
  part_same (Fixed s) digits h = refl
  part_same (Chosen s word low) digits h =
      ap₂ (λ (w l : List Digit). record { signal = s.signal; word = word_place s.words w; low = place_of s.bits s.width l; digits = digits })
      (value_kept old new time word (first_kept old new time (reads word) (reads low) h))
      (value_kept old new time low (rest_kept old new time (reads word) (reads low) h))

  -- stores that agree on what the indices of a target read give it one write
  pub parts_same : (place : ℕ) (aims : List Aim) (digits : List Digit) → list_any (is_changed old new) (joined (map aim_reads aims)) ≡ false →
      parts_from place aims digits old time ≡ parts_from place aims digits new time
  parts_same place [] digits h = refl
  parts_same place (a ∷ as') digits h =
      ap₂ (λ p ps. p ∷ ps)
      (part_same a (selected (pos place) (aim_width a) digits) (first_kept old new time (aim_reads a) (joined (map aim_reads as')) h))
      (parts_same (place + aim_width a) as' digits (rest_kept old new time (aim_reads a) (joined (map aim_reads as')) h))

-- ---- what it keeps

digit_keeps : (f : List Digit → List Digit) (place : ℕ) → ((w : List Digit) → slice_get (f w) place ≡ slice_get w place) → (o : Option (List Digit)) → digit_in (option_map f o) place ≡ digit_in o place
digit_keeps f place h None = refl
digit_keeps f place h (Some w) = h w

-- the signal of a part as it is behind it
own_signal : (p : Part) (store : Store) → slice_get (put_part store p) p.signal ≡ option_map (changed_at (overlaid p.low p.digits) p.word) (slice_get store p.signal)
own_signal p store = get-changed_at (changed_at (overlaid p.low p.digits) p.word) p.signal store

other_signal : (p : Part) (store : Store) (signal word place : ℕ) → (p.signal == signal) ≡ false → digit_of (put_part store p) signal word place ≡ digit_of store signal word place
other_signal p store signal word place h =
    ap (λ o. digit_in (word_in o word) place) (get-changed_at_other (changed_at (overlaid p.low p.digits) p.word) p.signal signal store (eqb-false p.signal signal h))

other_word : (p : Part) (store : Store) (word place : ℕ) → (p.word == word) ≡ false → digit_of (put_part store p) p.signal word place ≡ digit_of store p.signal word place
other_word p store word place h =
    ap (λ o. digit_in (word_in o word) place) (own_signal p store)
    ∙ ap (λ o. digit_in o place) (word_keeps (overlaid p.low p.digits) p.word word (slice_get store p.signal) (eqb-false p.word word h))

other_place : (p : Part) (store : Store) (place : ℕ) → has_bit (Some (bits_from p.low (length p.digits))) place ≡ false →
    digit_of (put_part store p) p.signal p.word place ≡ digit_of store p.signal p.word place
other_place p store place h =
    ap (λ o. digit_in (word_in o p.word) place) (own_signal p store)
    ∙ ap (λ o. digit_in o place) (word_changes (overlaid p.low p.digits) p.word (slice_get store p.signal))
    ∙ digit_keeps (overlaid p.low p.digits) place (λ w. outside_kept p.low p.digits w place h) (word_of store p.signal p.word)

-- a part keeps each digit out of its range
part_keeps : (p : Part) (store : Store) (signal word place : ℕ) → ((p.signal == signal) && (p.word == word) && has_bit (Some (bits_from p.low (length p.digits))) place) ≡ false →
    digit_of (put_part store p) signal word place ≡ digit_of store signal word place
part_keeps p store signal word place h =
    ⊎_elim
    (λ here.
    ⊎_elim
    (λ same.
    let out : has_bit (Some (bits_from p.low (length p.digits))) place ≡ false =
    ap₂ (λ a b. a && b && has_bit (Some (bits_from p.low (length p.digits))) place) (sym here.0) (sym same.0) ∙ h in
    ap₂ (λ s k. digit_of (put_part store p) s k place) (sym here.1) (sym same.1) ∙ other_place p store place out ∙ ap₂ (λ s k. digit_of store s k place) here.1 same.1)
    (λ other. ap (λ s. digit_of (put_part store p) s word place) (sym here.1) ∙ other_word p store word place other.0 ∙ ap (λ s. digit_of store s word place) here.1)
    (eqb_tells p.word word))
    (λ other. other_signal p store signal word place other.0)
    (eqb_tells p.signal signal)

all_true : (b : Bool) → (b && true && true) ≡ b
all_true true = refl
all_true false = refl

module _ (before : Store) (time signal word place : ℕ) where
  -- a place of a target keeps each digit that its range doesn't cover
  aim_keeps : (a : Aim) (digits : List Digit) (store : Store) → length digits ≡ aim_width a → covers signal word place (aim_range a) ≡ false →
      digit_of (put_part store (part_at a digits before time)) signal word place ≡ digit_of store signal word place
  aim_keeps (Fixed s) digits store size h =
      part_keeps (part_at (Fixed s) digits before time) store signal word place
      (ap (λ n. (s.signal == signal) && (s.word == word) && has_bit (Some (bits_from s.low n)) place) size ∙ h)
  aim_keeps (Chosen s index low) digits store size h =
      other_signal (part_at (Chosen s index low) digits before time) store signal word place (sym (all_true (s.signal == signal)) ∙ h)

  -- a write to a target keeps each digit that no range of the target covers
  pub parts_keep : (from : ℕ) (aims : List Aim) (digits : List Digit) (store : Store) → list_any (covers signal word place) (map aim_range aims) ≡ false →
      digit_of (put store (parts_from from aims digits before time)) signal word place ≡ digit_of store signal word place
  parts_keep from [] digits store h = refl
  parts_keep from (a ∷ as') digits store h =
      let part = selected (pos from) (aim_width a) digits in
      parts_keep (from + aim_width a) as' digits (put_part store (part_at a part before time)) (or_false_right (covers signal word place (aim_range a)) (list_any (covers signal word place) (map aim_range as')) h)
      ∙ aim_keeps a part store (length-selected (pos from) (aim_width a) digits) (or_false_left (covers signal word place (aim_range a)) (list_any (covers signal word place) (map aim_range as')) h)
