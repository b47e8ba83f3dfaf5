-- A write to bits of one word, by the planes of the word.
use Rattle.std.proofs.Common.{◌≡◌, ℕ, zero, suc, ◌+◌, ◌-◌, ◌*◌, ◌%◌, ◌^◌, ◌<◌, ◌≤◌, ◌==◌, pos, neg_ℤ, not, Bool, true, false, Some, None, option_map, List, [], ◌∷◌, length, slice_get, bit_and, refl, sym, ◌∙◌, ap, ap₂, subst, arith}
use Rattle.std.specs.Int.RustNames.{bit_xor}
use Rattle.std.proofs.Math.Nat.{mod-eq_of_lt, pow-le-pow_right}
use Rattle.std.proofs.lemmas.Nat.{and_mask, pow-add, pow_pos, shl_whole}
use Rattle.std.proofs.lemmas.Option.{same_Some}
use Rattle.vs_design.specs.vs_logic4.specs.declared.digit.Digit.{Digit}
use Rattle.vs_design.specs.vs_logic4.specs.declared.edge.Edge.TheVariants.{Any}
use Rattle.vs_design.specs.vs_logic4.specs.Moves.{lowered}
use Rattle.vs_design.specs.vs_logic4.specs.PlaneLaws.{digits_of_planes-of, length-digits_of_planes, unknown_plane-digits_of_planes, unknown_plane-lt, value_plane-digits_of_planes, value_plane-lt}
use Rattle.vs_design.specs.vs_logic4.specs.Planes.{ArePlanes, digits_of_planes, unknown_plane, value_plane}
use Rattle.vs_design.specs.vs_logic4.specs.Sameness.{same_digits-true}
use Rattle.vs_design.specs.vs_logic4.specs.Vectors.{same_digits}
use Rattle.vs_design.specs.vs_logic4.proofs.Bits.{below_64, ones_below}
use Rattle.vs_design.specs.vs_logic4.proofs.Parts.{with_part_is, written, power_of}
use Rattle.vs_design.specs.declared.signal.Signal.{Signal}
use Rattle.vs_design.specs.InOrder.{IsStoreOf, numbered_word, with_word}
use Rattle.vs_design.specs.Stores.{Store, changed_at, overlaid, put, word_in, word_of}
use Rattle.vs_design.proofs.InOrderLemmas.{word_numbered, word_placed}
use Rattle.vs_design.proofs.Stores.{changed_at-kept, part_changes}
use Rattle.vs_run_active.specs.vs_eval.specs.declared.masks.WordChange.{WordChange}
use Rattle.vs_run_active.specs.vs_eval.specs.Differences.{difference}
use Rattle.vs_run_active.specs.vs_eval.specs.Masks.{AreEdgesOf, IsChangeOf}
use Rattle.vs_run_active.specs.vs_eval.proofs.DifferencesLemmas.{sees_difference}
use Rattle.vs_process.specs.declared.spot.Spot.{Spot}
use Rattle.vs_process.specs.Spots.{IsSpotIn, spot_part, spot_write}
use Rattle.vs_process.proofs.SpotLemmas.{spots_hold}

-- ---- one plane

-- digits moved to their place
moved : (digits shift : ℕ) → digits < 2 ^ 64 → digits * 2 ^ shift % 2 ^ 64 ≡ lowered (neg_ℤ (pos shift)) digits
moved digits zero h = omega arith
moved digits (suc shift) h = refl

less_one : (a b : ℕ) → a * b ≡ b * (a + 1) - b
less_one a b = omega arith

-- the bits of a spot as a mask
spot_mask : (shift width size : ℕ) → shift + width ≤ size → size ≤ 64 → 2 ^ (shift + width) - 2 ^ shift ≡ bit_and (lowered (neg_ℤ (pos shift)) (2 ^ width - 1)) (2 ^ size - 1)
spot_mask shift width size inside most =
    let whole : (2 ^ width - 1) * 2 ^ shift % 2 ^ 64 ≡ (2 ^ width - 1) * 2 ^ shift = shl_whole (2 ^ width - 1) width shift 64 (ones_below width) (omega arith) in
    let bits : (2 ^ width - 1) * 2 ^ shift ≡ 2 ^ (shift + width) - 2 ^ shift =
    less_one (2 ^ width - 1) (2 ^ shift) ∙ ap (λ n. 2 ^ shift * n - 2 ^ shift) (power_of width) ∙ ap (λ n. n - 2 ^ shift) (sym (pow-add 2 shift width)) in
    let left : lowered (neg_ℤ (pos shift)) (2 ^ width - 1) ≡ 2 ^ (shift + width) - 2 ^ shift =
    sym (moved (2 ^ width - 1) shift (below_64 width (2 ^ width - 1) (omega arith) (ones_below width))) ∙ whole ∙ bits in
    let few : 2 ^ (shift + width) - 2 ^ shift < 2 ^ size =
    omega (arith, pow-le-pow_right {n = 2} (omega arith) {i = shift + width} {j = size} inside, pow_pos shift, pow_pos size) in
    sym (ap (λ n. bit_and n (2 ^ size - 1)) left ∙ and_mask (2 ^ (shift + width) - 2 ^ shift) size ∙ mod-eq_of_lt few)

-- a plane of a word with that of digits in the bits of a spot
abbrev pub laid : Spot → ℕ → ℕ → ℕ
laid spot plane digits = bit_xor plane (bit_and (bit_xor plane (digits * 2 ^ spot.shift % 2 ^ 64)) spot.mask)

laid_is : (spot : Spot) (size plane digits : ℕ) → spot.mask ≡ 2 ^ (spot.shift + spot.width) - 2 ^ spot.shift → spot.shift + spot.width ≤ size → size ≤ 64 → digits < 2 ^ 64 →
    laid spot plane digits ≡ written (neg_ℤ (pos spot.shift)) size spot.width plane digits
laid_is spot size plane digits mask inside most few =
    ap₂ (λ (q m : ℕ). bit_xor plane (bit_and (bit_xor plane q) m)) (moved digits spot.shift few) (mask ∙ spot_mask spot.shift spot.width size inside most)

-- ---- the word

-- the word of a spot with digits in the bits of the spot, by its planes
pub record IsLaid (store : Store) (spot : Spot) (digits : List Digit) (value unknown : ℕ) : Type 0 where
  pub word : word_of store spot.signal spot.word ≡ Some (numbered_word store spot.index)
  pub planes : ArePlanes (length (numbered_word store spot.index)) value unknown
  pub digits_are : digits_of_planes (length (numbered_word store spot.index)) value unknown ≡ overlaid (pos spot.shift) digits (numbered_word store spot.index)

pub word_laid : (signals : List Signal) (store : Store) (spot : Spot) (value unknown old_value old_unknown new_value new_unknown : ℕ) → IsSpotIn signals spot → IsStoreOf signals store →
    ArePlanes spot.width value unknown → old_value ≡ value_plane (numbered_word store spot.index) → old_unknown ≡ unknown_plane (numbered_word store spot.index) →
    new_value ≡ laid spot old_value value → new_unknown ≡ laid spot old_unknown unknown → IsLaid store spot (digits_of_planes spot.width value unknown) new_value new_unknown
word_laid signals store spot value unknown old_value old_unknown new_value new_unknown h is given ov ou nv nu =
    let before = numbered_word store spot.index in
    let size = length (numbered_word store spot.index) in
    let holds = spots_hold signals spot store h is in
    let numbered = word_numbered signals store spot.signal spot.word h.declared is h.at h.below in
    let long : size ≡ h.declared.width = ap (λ n. length (numbered_word store n)) h.numbered ∙ numbered.size in
    let some : 0 < size = omega (arith, long, h.declared.sized) in
    let most : size ≤ 64 = omega (arith, long, h.declared.sized) in
    let old : ArePlanes size (value_plane before) (unknown_plane before) =
    record { some = some; most = most; value_below = value_plane-lt before; unknown_below = unknown_plane-lt before } in
    let both = with_part_is old given (digits_of_planes-of before) refl (pos spot.shift) in
    let v : new_value ≡ written (neg_ℤ (pos spot.shift)) size spot.width (value_plane before) value =
    nv ∙ ap (λ n. laid spot n value) ov ∙ laid_is spot size (value_plane before) value h.masked holds.within most (below_64 spot.width value given.most given.value_below) in
    let u : new_unknown ≡ written (neg_ℤ (pos spot.shift)) size spot.width (unknown_plane before) unknown =
    nu ∙ ap (λ n. laid spot n unknown) ou ∙ laid_is spot size (unknown_plane before) unknown h.masked holds.within most (below_64 spot.width unknown given.most given.unknown_below) in
    record {
      word = holds.word;
      planes =
          subst (λ n. ArePlanes size n new_unknown) (sym v)
          (subst (λ n. ArePlanes size (written (neg_ℤ (pos spot.shift)) size spot.width (value_plane before) value) n) (sym u) both.0);
      digits_are = ap₂ (digits_of_planes size) v u ∙ both.1;
    }

-- ---- the store

same_change : {A : Type 0} (f g : A → A) (i : ℕ) (xs : List A) → ((x : A) → slice_get xs i ≡ Some x → f x ≡ g x) → changed_at f i xs ≡ changed_at g i xs
same_change f g i [] h = refl
same_change f g zero (x ∷ xs) h = ap (λ y. y ∷ xs) (h x refl)
same_change f g (suc i) (x ∷ xs) h = ap (λ ys. x ∷ ys) (same_change f g i xs h)

-- what is known of the one word that there is
only_word : (store : Store) (spot : Spot) (before x : List Digit) (words : List (List Digit)) → word_of store spot.signal spot.word ≡ Some before → slice_get store spot.signal ≡ Some words →
    slice_get words spot.word ≡ Some x → before ≡ x
only_word store spot before x words word there here = same_Some before x (sym word ∙ ap (λ o. word_in o spot.word) there ∙ here)

-- the store with the word in place is the one after the write
pub word_stored : (signals : List Signal) (store : Store) (spot : Spot) (digits : List Digit) (value unknown : ℕ) → IsSpotIn signals spot → IsStoreOf signals store → IsLaid store spot digits value unknown →
    with_word store spot.index (digits_of_planes (length (numbered_word store spot.index)) value unknown) ≡ put store (spot_write spot digits)
word_stored signals store spot digits value unknown h is l =
    let f : List Digit → List Digit = overlaid (pos spot.shift) digits in
    let before = numbered_word store spot.index in
    ap (with_word store spot.index) l.digits_are
    ∙ ap (λ n. with_word store n (f before)) h.numbered
    ∙ word_placed signals store spot.signal spot.word h.declared (f before) is h.at h.below
    ∙ same_change (changed_at (λ w. f before) spot.word) (changed_at f spot.word) spot.signal store
    (λ words there. same_change (λ w. f before) f spot.word words (λ x here. ap f (only_word store spot before x words l.word there here)))

-- where the word stays the store does
pub word_stays : (store : Store) (spot : Spot) (digits : List Digit) (value unknown : ℕ) → IsLaid store spot digits value unknown →
    same_digits (numbered_word store spot.index) (digits_of_planes (length (numbered_word store spot.index)) value unknown) ≡ true → store ≡ put store (spot_write spot digits)
word_stays store spot digits value unknown l same =
    let f : List Digit → List Digit = overlaid (pos spot.shift) digits in
    let before = numbered_word store spot.index in
    let stays : before ≡ f before = same_digits-true before (digits_of_planes (length (numbered_word store spot.index)) value unknown) same ∙ l.digits_are in
    sym (changed_at-kept (changed_at f spot.word) spot.signal store
    (λ words there. changed_at-kept f spot.word words
    (λ x here. let is = only_word store spot before x words l.word there here in sym (ap f is) ∙ sym stays ∙ is)))

-- the word after the write
pub word_after : (store new : Store) (spot : Spot) (digits : List Digit) (value unknown : ℕ) → IsLaid store spot digits value unknown → new ≡ put store (spot_write spot digits) →
    word_of new spot.signal spot.word ≡ Some (digits_of_planes (length (numbered_word store spot.index)) value unknown)
word_after store new spot digits value unknown l is =
    ap (λ (s : Store). word_of s spot.signal spot.word) is
    ∙ part_changes (spot_part spot digits) store
    ∙ ap (option_map (overlaid (pos spot.shift) digits)) l.word
    ∙ ap Some (sym l.digits_are)

-- ---- its change

pub word_change : (store : Store) (spot : Spot) (digits : List Digit) (change : WordChange) → change.value ≡ value_plane (numbered_word store spot.index) →
    change.unknown ≡ unknown_plane (numbered_word store spot.index) → IsLaid store spot digits change.new_value change.new_unknown →
    IsChangeOf change (numbered_word store spot.index) (digits_of_planes (length (numbered_word store spot.index)) change.new_value change.new_unknown)
word_change store spot digits change v u l =
    let size = length (numbered_word store spot.index) in
    record {
      value = v;
      unknown = u;
      new_value = sym (value_plane-digits_of_planes size change.new_value change.new_unknown l.planes.value_below);
      new_unknown = sym (unknown_plane-digits_of_planes size change.new_value change.new_unknown l.planes.unknown_below);
      size = sym (length-digits_of_planes size change.new_value change.new_unknown);
      limit = l.planes.most;
    }

not_same : (a b : Bool) → not a ≡ not b → a ≡ b
not_same true true h = refl
not_same true false h = cc
not_same false true h = cc
not_same false false h = refl

-- a word stays where no bit differs
pub word_differs : (ds es : List Digit) (number : ℕ) → length ds ≡ length es → number ≡ difference ds es → same_digits ds es ≡ (number == 0)
word_differs ds es number long is =
    sym (not_same (number == 0) (same_digits ds es) (ap (λ n. not (n == 0)) is ∙ sees_difference None (Some ds) (Some es) (ap Some long)))

-- what a write to a spot makes of the word, of which these are the places at which it differs
pub record IsWritten (store : Store) (spot : Spot) (digits : List Digit) (change : WordChange) (differing : ℕ) : Type 0 where
  pub laid : IsLaid store spot digits change.new_value change.new_unknown
  pub changed : IsChangeOf change (numbered_word store spot.index) (digits_of_planes (length (numbered_word store spot.index)) change.new_value change.new_unknown)
  pub same : same_digits (numbered_word store spot.index) (digits_of_planes (length (numbered_word store spot.index)) change.new_value change.new_unknown) ≡ (differing == 0)

pub word_written : (signals : List Signal) (store : Store) (spot : Spot) (value unknown : ℕ) (change : WordChange) (differing : ℕ) → IsSpotIn signals spot → IsStoreOf signals store →
    ArePlanes spot.width value unknown → change.value ≡ value_plane (numbered_word store spot.index) → change.unknown ≡ unknown_plane (numbered_word store spot.index) →
    change.new_value ≡ laid spot change.value value → change.new_unknown ≡ laid spot change.unknown unknown → AreEdgesOf Any change differing →
    IsWritten store spot (digits_of_planes spot.width value unknown) change differing
word_written signals store spot value unknown change differing h is given v u nv nu differ =
    let l = word_laid signals store spot value unknown change.value change.unknown change.new_value change.new_unknown h is given v u nv nu in
    let before = numbered_word store spot.index in
    let after = digits_of_planes (length (numbered_word store spot.index)) change.new_value change.new_unknown in
    let of = word_change store spot (digits_of_planes spot.width value unknown) change v u l in
    record { laid = l; changed = of; same = word_differs before after differing of.size (differ before after of) }
