-- Reading actuals piece by piece.
use Rattle.std.proofs.Common.{ℕ, ◌≡◌, ◌≤◌, ◌<◌, ◌+◌, ◌-◌, Bool, true, false, List, [], ◌∷◌, ◌++◌, append_assoc, length, length-append, take, Option, Some, None, Result, Ok, Err, refl, ap, sym, ◌∙◌, arith}
use Rattle.std.specs.Borrow.{Bor}
use Rattle.std.specs.Prelude.{map, if◌then◌else◌, ◌==◌, ◌&&◌, ◌||◌}
use Rattle.std.proofs.lemmas.List.{map-append}
use Rattle.std.proofs.Math.Seq.{take-append_seam}
use Rattle.vs_prep_macros.specs.Parts.{Part, parts_of, bytes_from}
use Rattle.vs_prep_macros.specs.declared.piece.Form.{Form}
use Rattle.vs_prep_macros.specs.declared.piece.Form.TheVariants as f
use Rattle.vs_prep_macros.specs.declared.actuals.Move.{Move}
use Rattle.vs_prep_macros.specs.declared.actuals.Move.TheVariants as m
use Rattle.vs_prep_macros.specs.declared.fault.Fault.TheVariants as d
use Rattle.vs_prep_macros.specs.declared.fault.Halt.{Halt}
use Rattle.vs_prep_macros.specs.declared.fault.Halt.TheVariants as h
use Rattle.vs_prep_macros.specs.Actuals.{actuals_in, closed, first_move, move_by, moved, read_piece, used}
use Rattle.vs_prep_macros.specs.Directives.{is_directive}
use Rattle.vs_prep_macros.specs.Folds.{over}
use Rattle.vs_prep_macros.specs.Names.{name_at}
use Rattle.vs_prep_macros.proofs.Reading.{over_next}

-- ---- the front of bytes, up to those that are left

pub front_of : (from front rest : List ℕ) → from ≡ front ++ rest → take (length from - length rest) from ≡ front
front_of from front rest e =
    let sizes : length from ≡ length front + length rest = ap length e ∙ length-append front rest in
    let size : length from - length rest ≡ length front = omega arith in
    ap (λ (n : ℕ). take n from) size ∙ ap (take (length front)) e ∙ take-append_seam front rest

-- none are before all
pub front_none : (from : List ℕ) → take (length from - length from) from ≡ []
front_none from = front_of from [] from refl

pub all_left : (from : List ℕ) → from ≡ take (length from - length from) from ++ from
all_left from = sym (ap (λ (l : List ℕ). l ++ from) (front_none from))

whole : (from rest text after : List ℕ) → from ≡ take (length from - length rest) from ++ rest → rest ≡ text ++ after → from ≡ (take (length from - length rest) from ++ text) ++ after
whole from rest text after e w = e ∙ ap (λ (l : List ℕ). take (length from - length rest) from ++ l) w ∙ sym (append_assoc (take (length from - length rest) from) text after)

-- with a piece more
front_more : (from rest text after : List ℕ) → from ≡ take (length from - length rest) from ++ rest → rest ≡ text ++ after
    → take (length from - length after) from ≡ take (length from - length rest) from ++ text
front_more from rest text after e w = front_of from (take (length from - length rest) from ++ text) after (whole from rest text after e w)

pub still_left : (from rest text after : List ℕ) → from ≡ take (length from - length rest) from ++ rest → rest ≡ text ++ after → from ≡ take (length from - length after) from ++ after
still_left from rest text after e w = whole from rest text after e w ∙ sym (ap (λ (l : List ℕ). l ++ after) (front_more from rest text after e w))

-- ---- what is found from a piece on

module _ (inside from rest : List ℕ) (depth left : ℕ) (before : List (List ℕ)) (p : Part) (first : parts_of rest ≡ p ∷ parts_of p.rest) (bytes : rest ≡ bytes_from p) (all : left ≡ length rest) where
  front : List ℕ
  front = take (length from - length rest) from

  step : (move : Result Move Halt) → move_by p.form depth left p ≡ move → read_piece (record { depth = depth; text = front; before = before }) p ≡ moved (record { depth = depth; text = front; before = before }) p move
  step move e =
      let lefts : length (bytes_from p) ≡ left = sym (all ∙ ap length bytes) in
      ap (λ (n : ℕ). moved (record { depth = depth; text = front; before = before }) p (move_by p.form depth n p)) lefts
      ∙ ap (moved (record { depth = depth; text = front; before = before }) p) e

  -- it leaves them so deep
  pub stays_found : (n : ℕ) → move_by p.form depth left p ≡ Ok (m.Stays n) → from ≡ take (length from - length rest) from ++ rest
      → over read_piece (λ s. Err (h.Here d.OpenActuals)) (record { depth = depth; text = take (length from - length rest) from; before = before }) (parts_of rest) ≡ actuals_in inside
      → over read_piece (λ s. Err (h.Here d.OpenActuals)) (record { depth = n; text = take (length from - length p.rest) from; before = before }) (parts_of p.rest) ≡ actuals_in inside
  unfolding front actuals_in
  stays_found n e w found =
      ap (λ (text : List ℕ). over read_piece (λ s. Err (h.Here d.OpenActuals)) (record { depth = n; text = text; before = before }) (parts_of p.rest)) (front_more from rest p.text p.rest w bytes)
      ∙ sym (over_next read_piece (λ s. Err (h.Here d.OpenActuals)) (record { depth = depth; text = front; before = before }) (record { depth = n; text = front ++ p.text; before = before }) p (parts_of rest) (parts_of p.rest) first (step (Ok (m.Stays n)) e))
      ∙ found

  -- it splits them
  pub splits_found : (new : List (List ℕ)) → move_by p.form depth left p ≡ Ok m.Splits → new ≡ before ++ take (length from - length rest) from ∷ []
      → over read_piece (λ s. Err (h.Here d.OpenActuals)) (record { depth = depth; text = take (length from - length rest) from; before = before }) (parts_of rest) ≡ actuals_in inside
      → over read_piece (λ s. Err (h.Here d.OpenActuals)) (record { depth = 0; text = take (length p.rest - length p.rest) p.rest; before = new }) (parts_of p.rest) ≡ actuals_in inside
  unfolding front actuals_in
  splits_found new e pushed found =
      ap (λ (text : List ℕ). over read_piece (λ s. Err (h.Here d.OpenActuals)) (record { depth = 0; text = text; before = new }) (parts_of p.rest)) (front_none p.rest)
      ∙ ap (λ (others : List (List ℕ)). over read_piece (λ s. Err (h.Here d.OpenActuals)) (record { depth = 0; text = []; before = others }) (parts_of p.rest)) pushed
      ∙ sym (over_next read_piece (λ s. Err (h.Here d.OpenActuals)) (record { depth = depth; text = front; before = before }) (record { depth = 0; text = []; before = before ++ front ∷ [] }) p (parts_of rest) (parts_of p.rest) first (step (Ok m.Splits) e))
      ∙ found

-- at the beginning
pub none_found : (inside : List ℕ) (before : List (List ℕ)) → before ≡ []
    → over read_piece (λ s. Err (h.Here d.OpenActuals)) (record { depth = 0; text = take (length inside - length inside) inside; before = before }) (parts_of inside) ≡ actuals_in inside
unfolding actuals_in
none_found inside before e = rw (front_none inside, e) refl

-- ---- the same, with how many bytes there are

-- what is known where so many bytes are left
abbrev pub IsReading : List ℕ → List ℕ → List ℕ → ℕ → List (List ℕ) → Type 0
IsReading inside from rest depth before =
    (over read_piece (λ s. Err (h.Here d.OpenActuals)) (record { depth = depth; text = take (length from - length rest) from; before = before }) (parts_of rest) ≡ actuals_in inside)
    × (from ≡ take (length from - length rest) from ++ rest) × (length rest ≤ length from) × (length from ≤ length inside) × (depth + length rest ≤ length inside)

pub same_reading : (inside rest from new_from : List ℕ) (depth new_depth : ℕ) (before new : List (List ℕ)) → new_from ≡ from → new_depth ≡ depth → new ≡ before
    → IsReading inside from rest depth before → IsReading inside new_from rest new_depth new
same_reading inside rest from new_from depth new_depth before new e f g r = rw (e, f, g) r

pub pushed_front : (old new : List (Bor (List ℕ))) (x : Bor (List ℕ)) (text : List ℕ) → new ≡ old ++ x ∷ [] → x.now ≡ text → map (λ a. a.now) new ≡ map (λ a. a.now) old ++ text ∷ []
pushed_front old new x text e w =
    ap (map (λ (a : Bor (List ℕ)). a.now)) e ∙ map-append (λ (a : Bor (List ℕ)). a.now) old (x ∷ []) ∙ ap (λ (b : List ℕ). map (λ a. a.now) old ++ b ∷ []) w

-- ---- a piece goes no deeper than one more

closed_within : (outermost : Bool) (depth n : ℕ) (o : Result Move Halt) → (o ≡ Ok (m.Stays n) → n ≤ depth + 1) → (if outermost then o else Ok (m.Stays (depth - 1))) ≡ Ok (m.Stays n) → n ≤ depth + 1
closed_within true depth n o by e = by e
closed_within false depth n o by e = let same : depth - 1 ≡ n = cc in omega arith

byte_within : (opening closing other splitting : Bool) (depth n : ℕ)
    → (if opening then Ok (m.Stays (depth + 1)) else (if closing then closed depth (Ok m.Closes) else (if other then closed depth (Err (h.Here d.OpenActuals)) else (if splitting then Ok m.Splits else Ok (m.Stays depth))))) ≡ Ok (m.Stays n)
    → n ≤ depth + 1
byte_within true closing other splitting depth n e = let same : depth + 1 ≡ n = cc in omega arith
byte_within false true other splitting depth n e = closed_within (depth == 0) depth n (Ok m.Closes) (λ w. absurd cc) e
byte_within false false true splitting depth n e = closed_within (depth == 0) depth n (Err (h.Here d.OpenActuals)) (λ w. absurd cc) e
byte_within false false false true depth n e = absurd cc
byte_within false false false false depth n e = let same : depth ≡ n = cc in omega arith

first_within : (depth n : ℕ) (text : List ℕ) → first_move depth text ≡ Ok (m.Stays n) → n ≤ depth + 1
first_within depth n [] e = let same : depth ≡ n = cc in omega arith
first_within depth n (b ∷ bs) e = byte_within (b == 40 || (b == 91 || b == 123)) (b == 41) (b == 93 || b == 125) (b == 44 && depth == 0) depth n e

use_within : (directive : Bool) (depth left n : ℕ) → (if directive then Err (h.At d.DirectiveInActuals left) else Ok (m.Stays depth)) ≡ Ok (m.Stays n) → n ≤ depth + 1
use_within true depth left n e = absurd cc
use_within false depth left n e = let same : depth ≡ n = cc in omega arith

used_within : (depth left n : ℕ) (after : List ℕ) (name : Option (List ℕ × List ℕ)) → used depth left after name ≡ Ok (m.Stays n) → n ≤ depth + 1
used_within depth left n after None e = absurd cc
used_within depth left n after (Some x) e = use_within (is_directive x.0) depth left n e

same_within : (depth n : ℕ) → (let stays : Result Move Halt = Ok (m.Stays depth) in stays ≡ Ok (m.Stays n)) → n ≤ depth + 1
same_within depth n e = let same : depth ≡ n = cc in omega arith

pub move_within : (form : Form) (depth left n : ℕ) (p : Part) → move_by form depth left p ≡ Ok (m.Stays n) → n ≤ depth + 1
move_within f.Other depth left n p e = first_within depth n p.text e
move_within f.OpenComment depth left n p e = absurd cc
move_within f.CutText depth left n p e = absurd cc
move_within f.Backquote depth left n p e = used_within depth left n p.rest (name_at p.rest) e
move_within f.LineFeed depth left n p e = same_within depth n e
move_within f.Blank depth left n p e = same_within depth n e
move_within f.LineComment depth left n p e = same_within depth n e
move_within f.BlockComment depth left n p e = same_within depth n e
move_within f.Text depth left n p e = same_within depth n e
move_within f.Escaped depth left n p e = same_within depth n e
move_within f.Name depth left n p e = same_within depth n e
move_within f.Digits depth left n p e = same_within depth n e

module _ (inside from rest : List ℕ) (depth left : ℕ) (before : List (List ℕ)) (p : Part) (first : parts_of rest ≡ p ∷ parts_of p.rest) (bytes : rest ≡ bytes_from p) (all : left ≡ length rest)
    (fewer : length p.rest < length rest) (r : IsReading inside from rest depth before) where
  pub stays_reading : (n : ℕ) → move_by p.form depth left p ≡ Ok (m.Stays n) → IsReading inside from p.rest n before
  stays_reading n e =
      let deeper : n ≤ depth + 1 = move_within p.form depth left n p e in
      let within : length rest ≤ length from = r.2 in
      let from_within : length from ≤ length inside = r.3 in
      let depths : depth + length rest ≤ length inside = r.4 in
      (stays_found inside from rest depth left before p first bytes all n e r.1 r.0, still_left from rest p.text p.rest r.1 bytes, omega arith, omega arith, omega arith)

  pub splits_reading : (new : List (List ℕ)) → move_by p.form depth left p ≡ Ok m.Splits → new ≡ before ++ take (length from - length rest) from ∷ [] → IsReading inside p.rest p.rest 0 new
  splits_reading new e pushed =
      let within : length rest ≤ length from = r.2 in
      let from_within : length from ≤ length inside = r.3 in
      (splits_found inside from rest depth left before p first bytes all new e pushed r.0, all_left p.rest, omega arith, omega arith, omega arith)
