-- The shift operators, by their planes.
use Rattle.std.proofs.Common.{◌≡◌, ℕ, ◌+◌, ◌-◌, ◌<◌, ◌≤◌, min, Bool, true, false, List, length, get_or, take, drop, replicate, refl, sym, ap, ◌∙◌, ⊎_elim, arith}
use Rattle.std.proofs.lemmas.Bool.{cases_lt, eq-eqb, ne_eqb}
use Rattle.std.proofs.lemmas.List.{length-drop, length-replicate, get_or_append_left, get_or-append_right, get_or-take, get_or-drop, get_or-replicate}
use Rattle.vs_logic4.specs.declared.digit.Digit.{Digit}
use Rattle.vs_logic4.specs.declared.digit.Digit.TheVariants.{Zero, X}
use Rattle.vs_logic4.specs.Planes.{digits_of_planes, ArePlanes}
use Rattle.vs_logic4.specs.PlaneLaws.{length-digits_of_planes, get_or-digits_of_planes, planes_are}
use Rattle.vs_logic4.specs.Extensions.{extension_is}
use Rattle.vs_logic4.specs.Vectors.{extension_digit, all_unknown}
use Rattle.vs_logic4.specs.Comparisons.{is_known}
use Rattle.vs_logic4.specs.Arithmetic.{number}
use Rattle.vs_logic4.specs.Shifts.{moved_left, moved_right, left_shift, right_shift}
use Rattle.vs_logic4.specs.Lengths.{length-moved_left, length-moved_right}
use Rattle.vs_logic4.specs.Moves.{IsMovedLeft, IsMovedRight}
use Rattle.vs_logic4.proofs.Comparisons.{is_known_is}
use Rattle.vs_logic4.proofs.Numbers.{number_is}

get_or-moved_left_low : (n : ℕ) (ds : List Digit) (i : ℕ) → i < length ds → i < n → get_or (moved_left n ds) i X ≡ Zero
get_or-moved_left_low n ds i h k =
    let within : i < length (replicate (min n (length ds)) Zero) = omega (arith, length-replicate (min n (length ds)) Zero) in
    get_or_append_left (replicate (min n (length ds)) Zero) (take (length ds - n) ds) X i within
    ∙ get_or-replicate (min n (length ds)) i Zero X (omega arith)

get_or-moved_left_high : (n : ℕ) (ds : List Digit) (i : ℕ) → i < length ds → n ≤ i → get_or (moved_left n ds) i X ≡ get_or ds (i - n) X
get_or-moved_left_high n ds i h k =
    let few : length (replicate (min n (length ds)) Zero) ≡ n = omega (arith, length-replicate (min n (length ds)) Zero) in
    get_or-append_right (replicate (min n (length ds)) Zero) (take (length ds - n) ds) n i X few k
    ∙ get_or-take (length ds - n) ds (i - n) X (omega arith)

get_or-moved_right_low : (signed : Bool) (n : ℕ) (ds : List Digit) (i : ℕ) → i < length ds → n + i < length ds → get_or (moved_right signed n ds) i X ≡ get_or ds (n + i) X
get_or-moved_right_low signed n ds i h k =
    let within : i < length (drop n ds) = omega (arith, length-drop n ds) in
    get_or_append_left (drop n ds) (replicate (min n (length ds)) (extension_digit signed ds)) X i within
    ∙ get_or-drop n ds i X

get_or-moved_right_high : (signed : Bool) (n : ℕ) (ds : List Digit) (i : ℕ) → i < length ds → length ds ≤ n + i → get_or (moved_right signed n ds) i X ≡ extension_digit signed ds
get_or-moved_right_high signed n ds i h k =
    get_or-append_right (drop n ds) (replicate (min n (length ds)) (extension_digit signed ds)) (length ds - n) i X (length-drop n ds) (omega arith)
    ∙ get_or-replicate (min n (length ds)) (i - (length ds - n)) (extension_digit signed ds) X (omega arith)

-- both planes moved left are the vector moved left
moved_left_is : (w n v u v' u' : ℕ) → IsMovedLeft w n v v' → IsMovedLeft w n u u' → digits_of_planes w v' u' ≡ moved_left n (digits_of_planes w v u)
moved_left_is w n v u v' u' p q =
    let ds = digits_of_planes w v u in
    let long : length (digits_of_planes w v u) ≡ w = length-digits_of_planes w v u in
    planes_are w v' u' (moved_left n ds) (length-moved_left n ds ∙ long)
    (λ i h.
    let within : i < length (digits_of_planes w v u) = rw long h in
    ⊎_elim
    (λ (k : i < n). rw (p.low i h k, q.low i h k, get_or-moved_left_low n ds i within k) refl)
    (λ (k : n ≤ i). rw (p.high i h k, q.high i h k, get_or-moved_left_high n ds i within k) (sym (get_or-digits_of_planes w v u (i - n) X (omega arith))))
    (cases_lt i n))

-- both planes moved right are the vector moved right
moved_right_is : (signed : Bool) (w n v u v' u' : ℕ) → 0 < w → IsMovedRight signed w n v v' → IsMovedRight signed w n u u' → digits_of_planes w v' u' ≡ moved_right signed n (digits_of_planes w v u)
moved_right_is signed w n v u v' u' some p q =
    let ds = digits_of_planes w v u in
    let long : length (digits_of_planes w v u) ≡ w = length-digits_of_planes w v u in
    planes_are w v' u' (moved_right signed n ds) (length-moved_right signed n ds ∙ long)
    (λ i h.
    let within : i < length (digits_of_planes w v u) = rw long h in
    ⊎_elim
    (λ (k : n + i < w).
    let inside : n + i < length (digits_of_planes w v u) = rw long k in
    rw (p.low i h k, q.low i h k, get_or-moved_right_low signed n ds i within inside) (sym (get_or-digits_of_planes w v u (n + i) X k)))
    (λ (k : w ≤ n + i).
    let outside : length (digits_of_planes w v u) ≤ n + i = rw long k in
    rw (p.high i h k, q.high i h k, get_or-moved_right_high signed n ds i within outside) (extension_is signed w v u some))
    (cases_lt (n + i) w))

module _ {w v u w' v' u' : ℕ} {ds amount : List Digit} (p : ArePlanes w v u) (q : ArePlanes w' v' u') (view : digits_of_planes w v u ≡ ds) (view' : digits_of_planes w' v' u' ≡ amount) where
  width : length ds ≡ w
  width = sym (ap length view) ∙ length-digits_of_planes w v u

  known : u' ≡ 0 → is_known amount ≡ true
  known h = sym (is_known_is q view') ∙ eq-eqb u' 0 h

  places : u' ≡ 0 → number amount ≡ v'
  places h = rw (← view', h) (number_is w' v' q.value_below)

  unknown : (u' ≡ 0 → ⊥) → is_known amount ≡ false
  unknown h = sym (is_known_is q view') ∙ ne_eqb u' 0 h

  pub left_shift_is : {a b : ℕ} → u' ≡ 0 → IsMovedLeft w v' v a → IsMovedLeft w v' u b → digits_of_planes w a b ≡ left_shift ds amount
  left_shift_is {a} {b} h m n = rw (known h, places h, ← view) (moved_left_is w v' v u a b m n)

  pub right_shift_is : {a b : ℕ} (signed : Bool) → u' ≡ 0 → IsMovedRight signed w v' v a → IsMovedRight signed w v' u b → digits_of_planes w a b ≡ right_shift signed ds amount
  right_shift_is {a} {b} signed h m n = rw (known h, places h, ← view) (moved_right_is signed w v' v u a b p.some m n)

  pub no_left_shift : (u' ≡ 0 → ⊥) → all_unknown w ≡ left_shift ds amount
  no_left_shift h = rw (unknown h, width) refl

  pub no_right_shift : (signed : Bool) → (u' ≡ 0 → ⊥) → all_unknown w ≡ right_shift signed ds amount
  no_right_shift signed h = rw (unknown h, width) refl
