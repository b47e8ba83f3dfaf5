-- How a `case` statement compares, by the planes of its two vectors.
use Rattle.std.proofs.Common.{◌≡◌, ℕ, suc, ◌+◌, ◌-◌, ◌%◌, ◌^◌, ◌<◌, ◌≤◌, min, max, Bool, true, false, ◌&&◌, eqb, List, [], ◌∷◌, length, refl, sym, ap, ◌∙◌, arith, subst, w64, bit_and, bit_or}
use Rattle.std.specs.Int.{bit_at, bit_not}
use Rattle.std.specs.Int.RustNames.{bit_xor}
use Rattle.std.proofs.lemmas.Nat.{or_lt, xor_lt}
use Rattle.std.proofs.lemmas.Nat.Bits.{bit_at_or, bit_at_xor, bit_at-lt, bit_at-zero}
use Rattle.vs_logic4.specs.declared.digit.Digit.{Digit}
use Rattle.vs_logic4.specs.declared.case.CaseKind.{CaseKind}
use Rattle.vs_logic4.specs.declared.case.CaseKind.TheVariants.{Case, Casez, Casex}
use Rattle.vs_logic4.specs.Planes.{digit_of_bits, digits_of_planes, value_plane, unknown_plane}
use Rattle.vs_logic4.specs.PlaneLaws.{value_plane-lt, unknown_plane-lt, digits_of_planes-of}
use Rattle.vs_logic4.specs.Comparisons.{each_position}
use Rattle.vs_logic4.specs.Cases.{digits_match, matches}
use Rattle.vs_logic4.specs.CasePlanes.{wild_plane}
use mathlib.Core.Bool.{beq}
use Rattle.vs_logic4.proofs.Bits.{holds4, tests4_at, bit_at_and_not, below_64, and_below_left}
use Rattle.vs_logic4.proofs.Positions.{each_is}

-- vectors of one size match where each two digits do
matches_each : (kind : CaseKind) (ds es : List Digit) → length ds ≡ length es → matches kind ds es ≡ each_position (digits_match kind) ds es
matches_each kind [] [] h = refl
matches_each kind [] (e ∷ es) h = absurd (omega arith)
matches_each kind (d ∷ ds) [] h = absurd (omega arith)
matches_each kind (d ∷ ds) (e ∷ es) h = ap (λ t. digits_match kind d e && t) (matches_each kind ds es (omega arith))

and_false : (s t : Bool) → false ≡ t → false ≡ (s && t)
and_false true t h = h
and_false false t h = refl

-- vectors of two sizes don't match
pub matches_sizes : (kind : CaseKind) (ds es : List Digit) → (length ds ≡ length es → ⊥) → false ≡ matches kind ds es
matches_sizes kind [] [] h = absurd (h refl)
matches_sizes kind [] (e ∷ es) h = refl
matches_sizes kind (d ∷ ds) [] h = refl
matches_sizes kind (d ∷ ds) (e ∷ es) h = and_false (digits_match kind d e) (matches kind ds es) (matches_sizes kind ds es (λ k. h (ap suc k)))

-- the bit of a digit in `wild_plane`
abbrev wild_bit : CaseKind → ℕ → ℕ → ℕ
wild_bit Case a b = 0
wild_bit Casez a b = min b (1 - a)
wild_bit Casex a b = b

wild_plane-lt : (kind : CaseKind) (w v u : ℕ) → u < 2 ^ w → wild_plane kind v u < 2 ^ w
wild_plane-lt Case w v u h = omega arith
wild_plane-lt Casez w v u h = and_below_left w u (bit_not w64 v) h
wild_plane-lt Casex w v u h = h

bit_at-wild_plane : (kind : CaseKind) (v u i : ℕ) → v < 2 ^ 64 → i < 64 → bit_at (wild_plane kind v u) i ≡ wild_bit kind (bit_at v i) (bit_at u i)
bit_at-wild_plane Case v u i h k = bit_at-zero i
bit_at-wild_plane Casez v u i h k = bit_at_and_not u v i h k
bit_at-wild_plane Casex v u i h k = refl

-- two digits match where their bits are equal or one of them counts as equal to every other one
abbrev differ_bit : CaseKind → ℕ → ℕ → ℕ → ℕ → ℕ
differ_bit kind a b c d = min (min (max ((a + c) % 2) ((b + d) % 2)) (1 - wild_bit kind a b)) (1 - wild_bit kind c d)

match_bits : (kind : CaseKind) → holds4 (λ a b c d. beq (digits_match kind (digit_of_bits a b) (digit_of_bits c d)) (eqb (differ_bit kind a b c d) 0)) ≡ true
match_bits Case = refl
match_bits Casez = refl
match_bits Casex = refl

-- the places at which two vectors don't match, by their planes
abbrev pub unmatched : CaseKind → ℕ → ℕ → ℕ → ℕ → ℕ
unmatched kind v u v' u' =
    bit_and (bit_and (bit_or (bit_xor v v') (bit_xor u u')) (bit_not w64 (wild_plane kind v u))) (bit_not w64 (wild_plane kind v' u'))

module _ (kind : CaseKind) (w v u v' u' : ℕ) (most : w ≤ 64) (p : v < 2 ^ w) (q : u < 2 ^ w) (r : v' < 2 ^ w) (s : u' < 2 ^ w) where
  some_differ : bit_or (bit_xor v v') (bit_xor u u') < 2 ^ w
  some_differ = or_lt w (bit_xor v v') (bit_xor u u') (xor_lt w v v' p r) (xor_lt w u u' q s)

  unmatched_bit : (i : ℕ) → i < w → bit_at (unmatched kind v u v' u') i ≡ differ_bit kind (bit_at v i) (bit_at u i) (bit_at v' i) (bit_at u' i)
  unmatched_bit i h =
      let within : i < 64 = omega arith in
      let differ = bit_or (bit_xor v v') (bit_xor u u') in
      let wild = wild_plane kind v u in
      let wild' = wild_plane kind v' u' in
      let outer = bit_at_and_not (bit_and differ (bit_not w64 wild)) wild' i (below_64 w wild' most (wild_plane-lt kind w v' u' s)) within in
      let inner = bit_at_and_not differ wild i (below_64 w wild most (wild_plane-lt kind w v u q)) within in
      let mine = bit_at-wild_plane kind v u i (below_64 w v most p) within in
      let others = bit_at-wild_plane kind v' u' i (below_64 w v' most r) within in
      rw (outer, inner, bit_at_or (bit_xor v v') (bit_xor u u') i, bit_at_xor v v' i, bit_at_xor u u' i, mine, others) refl

  planes_match : eqb (unmatched kind v u v' u') 0 ≡ each_position (digits_match kind) (digits_of_planes w v u) (digits_of_planes w v' u')
  planes_match =
      let differ = bit_or (bit_xor v v') (bit_xor u u') in
      let left = bit_and differ (bit_not w64 (wild_plane kind v u)) in
      sym (each_is (digits_match kind) w v u v' u' (unmatched kind v u v' u')
      (and_below_left w left (bit_not w64 (wild_plane kind v' u')) (and_below_left w differ (bit_not w64 (wild_plane kind v u)) some_differ))
      (λ i h. rw (unmatched_bit i h) (tests4_at
      (λ a b c d. digits_match kind (digit_of_bits a b) (digit_of_bits c d))
      (λ a b c d. eqb (differ_bit kind a b c d) 0) (match_bits kind)
      (bit_at v i) (bit_at u i) (bit_at v' i) (bit_at u' i) (bit_at-lt v i) (bit_at-lt u i) (bit_at-lt v' i) (bit_at-lt u' i))))

-- vectors of one size match where no place is left
pub matches_is : (kind : CaseKind) (ds es : List Digit) → length ds ≡ length es → length ds ≤ 64 → eqb (unmatched kind (value_plane ds) (unknown_plane ds) (value_plane es) (unknown_plane es)) 0 ≡ matches kind ds es
matches_is kind ds es h most =
    let value : value_plane es < 2 ^ length ds = subst (λ (n : ℕ). value_plane es < 2 ^ n) (sym h) (value_plane-lt es) in
    let unknown : unknown_plane es < 2 ^ length ds = subst (λ (n : ℕ). unknown_plane es < 2 ^ n) (sym h) (unknown_plane-lt es) in
    let right : digits_of_planes (length ds) (value_plane es) (unknown_plane es) ≡ es = ap (λ n. digits_of_planes n (value_plane es) (unknown_plane es)) h ∙ digits_of_planes-of es in
    planes_match kind (length ds) (value_plane ds) (unknown_plane ds) (value_plane es) (unknown_plane es) most (value_plane-lt ds) (unknown_plane-lt ds) value unknown
    ∙ ap (λ xs. each_position (digits_match kind) xs (digits_of_planes (length ds) (value_plane es) (unknown_plane es))) (digits_of_planes-of ds)
    ∙ ap (λ xs. each_position (digits_match kind) ds xs) right
    ∙ sym (matches_each kind ds es h)
