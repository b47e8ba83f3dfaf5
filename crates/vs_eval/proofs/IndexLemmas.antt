-- Lemmas on indices in two planes.
use Rattle.std.proofs.Common.{◌≡◌, ℕ, zero, suc, ◌+◌, ◌-◌, ◌*◌, ◌<◌, ◌≤◌, ◌==◌, ◌&&◌, Bool, true, false, pos, negsuc, ◌-ℤ◌, Some, None, option_map, nat_lt, if◌then◌else◌, List, [], ◌∷◌, refl, sym, ◌∙◌, ap, ap₂, arith}
use Rattle.std.proofs.lemmas.Bool.{le-ltb, lt-ltb, ltb-false, ltb-true, ne_eqb}
use Rattle.std.proofs.lemmas.Int.{ints}
use Rattle.vs_design.specs.vs_logic4.specs.declared.digit.Digit.{Digit}
use Rattle.vs_design.specs.vs_logic4.specs.declared.digit.Digit.TheVariants.{Zero, One, X, Z}
use Rattle.vs_design.specs.vs_logic4.specs.Arithmetic.{number}
use Rattle.vs_design.specs.vs_logic4.specs.Comparisons.{is_known}
use Rattle.vs_design.specs.vs_logic4.specs.Planes.{value_plane, unknown_plane}
use Rattle.vs_design.specs.declared.expression.Axis.{Axis}
use Rattle.vs_design.specs.Selects.{lowest, in_reach, reached, index_number, place_of}
use Rattle.vs_eval.specs.Meant.{IsPlain}
use Rattle.vs_eval.specs.Nodes.{counted}

some_not_zero : (n : ℕ) → 0 < n → (n == 0) ≡ false
some_not_zero n h = ne_eqb n 0 (λ z. omega (arith, h, z))

twice_none : (n : ℕ) → (n == 0) ≡ (0 + 2 * n == 0)
twice_none zero = refl
twice_none (suc n) = some_not_zero (suc n) (omega arith) ∙ sym (some_not_zero (0 + 2 * suc n) (omega arith))

-- a vector has no digit x or z where its unknown plane is empty
known_by_plane : (ds : List Digit) → is_known ds ≡ (unknown_plane ds == 0)
known_by_plane [] = refl
known_by_plane (Zero ∷ ds) = known_by_plane ds ∙ twice_none (unknown_plane ds)
known_by_plane (One ∷ ds) = known_by_plane ds ∙ twice_none (unknown_plane ds)
known_by_plane (X ∷ ds) = sym (some_not_zero (1 + 2 * unknown_plane ds) (omega arith))
known_by_plane (Z ∷ ds) = sym (some_not_zero (1 + 2 * unknown_plane ds) (omega arith))

-- the number of a vector without x and z is its value plane
number_by_plane : (ds : List Digit) → is_known ds ≡ true → number ds ≡ value_plane ds
number_by_plane [] h = refl
number_by_plane (Zero ∷ ds) h = ap (λ n. 0 + 2 * n) (number_by_plane ds h)
number_by_plane (One ∷ ds) h = ap (λ n. 1 + 2 * n) (number_by_plane ds h)
number_by_plane (X ∷ ds) h = cc
number_by_plane (Z ∷ ds) h = cc

-- whether an index of a plain range chooses an element
abbrev pub plain_place : ℕ → List Digit → Bool
plain_place n ds = (unknown_plane ds == 0) && nat_lt (value_plane ds) n

-- from the last of some elements down
falling_by : (b : Bool) (n k : ℕ) → 0 < n → nat_lt k n ≡ b → in_reach n 1 ((pos (n - 1) -ℤ pos k) -ℤ pos 0) ≡ (if b then pos (n - suc k) else pos n)
falling_by true n k some is =
    let below : k < n = ltb-true k n is in
    let place : (pos (n - 1) -ℤ pos k) -ℤ pos 0 ≡ pos (n - suc k) = omega (arith, ints) in
    let inside : n - suc k < n = omega arith in
    ap (λ z. in_reach n 1 z) place ∙ ap (λ c. if c then pos (n - suc k) else pos n) (lt-ltb (n - suc k) n inside)
falling_by false n k some is =
    let past : n ≤ k = ltb-false k n is in
    let place : (pos (n - 1) -ℤ pos k) -ℤ pos 0 ≡ negsuc (k - n) = omega (arith, ints) in
    let outside : 1 ≤ suc (k - n) = omega arith in
    ap (λ z. in_reach n 1 z) place ∙ ap (λ c. if c then negsuc (k - n) else pos n) (le-ltb (suc (k - n)) 1 outside)

reached_by : (falls : Bool) (n k : ℕ) → 0 < n →
    in_reach n 1 ((if falls then pos (counted falls n 0) -ℤ pos k else pos k -ℤ pos (counted falls n 0)) -ℤ pos 0) ≡ (if nat_lt k n then pos (counted falls n k) else pos n)
reached_by true n k some = falling_by (nat_lt k n) n k some refl
reached_by false n k some = let place : (pos k -ℤ pos 0) -ℤ pos 0 ≡ pos k = omega (arith, ints) in ap (λ z. in_reach n 1 z) place

module _ (a : Axis) (n : ℕ) (some : 0 < n) (p : IsPlain a n) where
  reached_plain : (k : ℕ) → reached a 1 (Some (pos k)) ≡ (if nat_lt k n then pos (counted a.ascending n k) else pos n)
  reached_plain k =
      ap (λ z. in_reach a.length 1 ((if a.ascending then z -ℤ pos k else pos k -ℤ z) -ℤ pos a.below)) p.right
      ∙ ap₂ (λ l b. in_reach l 1 ((if a.ascending then pos (counted a.ascending n 0) -ℤ pos k else pos k -ℤ pos (counted a.ascending n 0)) -ℤ pos b)) p.long p.below
      ∙ reached_by a.ascending n k some

  by_known : (b : Bool) (m k : ℕ) → (b ≡ true → m ≡ k) →
      reached a 1 (option_map (λ n. pos n) (if b then Some m else None)) ≡ (if b && nat_lt k n then pos (counted a.ascending n k) else pos n)
  by_known true m k h = reached_plain m ∙ ap (λ i. if nat_lt i n then pos (counted a.ascending n i) else pos n) (h refl)
  by_known false m k h = ap (λ i. pos i) p.long

  -- an index of a plain range chooses the element that its value counts, or none
  pub place_by_plane : (ds : List Digit) → place_of a 1 ds ≡ (if plain_place n ds then pos (counted a.ascending n (value_plane ds)) else pos n)
  place_by_plane ds =
      ap (λ s. reached a 1 (index_number s ds)) p.signed
      ∙ by_known (is_known ds) (number ds) (value_plane ds) (number_by_plane ds)
      ∙ ap (λ b. if b && nat_lt (value_plane ds) n then pos (counted a.ascending n (value_plane ds)) else pos n) (known_by_plane ds)
