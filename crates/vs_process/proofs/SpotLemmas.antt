-- Lemmas on spots.
use Rattle.std.proofs.Common.{◌≡◌, ℕ, zero, suc, ◌+◌, ◌-◌, ◌*◌, ◌%◌, ◌^◌, ◌<◌, ◌≤◌, ℤ, pos, true, false, ltb, Option, Some, None, List, [], ◌∷◌, ◌++◌, map, length, replicate, get_or, refl, sym, ◌∙◌, ap, ap₂, subst, arith}
use borrow.Author.Tests.{ltb-true}
use Rattle.std.specs.Prelude.{slice_get, IfSome}
use Rattle.std.proofs.Math.Nat.{pow-le-pow_right}
use Rattle.std.proofs.lemmas.Nat.{pow_pos}
use Rattle.std.proofs.lemmas.Option.{none-some, same_Some, slice_get-get_or}
use Rattle.vs_design.specs.vs_logic4.specs.declared.digit.Digit.{Digit}
use Rattle.vs_design.specs.vs_logic4.specs.Extensions.{length-resized}
use Rattle.vs_design.specs.vs_logic4.specs.Parts.{selected}
use Rattle.vs_design.specs.vs_logic4.specs.Vectors.{resized}
use Rattle.vs_design.specs.vs_logic4.proofs.Basics.{same_first, tail_is}
use Rattle.vs_design.specs.declared.expression.Slice.{Slice}
use Rattle.vs_design.specs.declared.signal.Signal.{Signal}
use Rattle.vs_design.specs.declared.statement.Aim.{Aim}
use Rattle.vs_design.specs.declared.statement.Aim.TheVariants.{Fixed}
use Rattle.vs_design.specs.declared.statement.Target.{Target}
use Rattle.vs_design.specs.declared.write.Part.{Part}
use Rattle.vs_design.specs.InOrder.{IsStoreOf, numbered_word, sizes_of_signals, word_sizes, words_before, words_in_order}
use Rattle.vs_design.specs.Stores.{Store, changed_at, overlaid}
use Rattle.vs_design.specs.Writes.{Write}
use Rattle.vs_strobe.specs.vs_eval.specs.Targets.{parts_from}
use Rattle.vs_design.proofs.InOrderLemmas.{word_numbered, head_long}
use Rattle.vs_process.specs.declared.spot.Spot.{Spot}
use Rattle.vs_process.specs.Spots.{IsSpotIn, IsSpotOf, SpotHolds, spot_write}
use Rattle.vs_process.proofs.Quick.{selected_whole}

-- ---- one word of all

changed_front : {A : Type 0} (f : A → A) (xs ys : List A) (i : ℕ) → i < length xs → changed_at f i (xs ++ ys) ≡ changed_at f i xs ++ ys
changed_front f [] ys i h = absurd (omega arith)
changed_front f (x ∷ xs) ys zero h = refl
changed_front f (x ∷ xs) ys (suc i) h = ap (λ l. x ∷ l) (changed_front f xs ys i (omega arith))

changed_after : {A : Type 0} (f : A → A) (xs ys : List A) (i j : ℕ) → j ≡ length xs + i → changed_at f j (xs ++ ys) ≡ xs ++ changed_at f i ys
changed_after f [] ys i j h = let same : j ≡ i = omega arith in ap (λ k. changed_at f k ys) same
changed_after f (x ∷ xs) ys i zero h = absurd (omega arith)
changed_after f (x ∷ xs) ys i (suc j) h = ap (λ l. x ∷ l) (changed_after f xs ys i j (omega arith))

-- a change of one word of a signal is the change of the word of its number
in_order : (f : List Digit → List Digit) (signals : List Signal) (store : Store) (signal word : ℕ) (s : Signal) → IsStoreOf signals store → slice_get signals signal ≡ Some s → word < s.count →
    words_in_order (changed_at (changed_at f word) signal store) ≡ changed_at f (words_before signals signal + word) (words_in_order store)
in_order f [] store signal word s is at below = absurd (none-some s at)
in_order f (x ∷ xs) [] signal word s is at below = cc
in_order f (x ∷ xs) (ws ∷ rest) zero word s is at below =
    let same = same_Some x s at in
    let here = subst (λ (y : Signal). map length ws ≡ replicate y.count y.width) same (same_first (map length ws) (replicate x.count x.width) (word_sizes rest) (sizes_of_signals xs) is) in
    let long : word < length ws = omega (arith, head_long ws s here) in
    let place : word ≡ 0 + word = omega arith in
    sym (changed_front f ws (words_in_order rest) word long) ∙ ap (λ k. changed_at f k (ws ++ words_in_order rest)) place
in_order f (x ∷ xs) (ws ∷ rest) (suc i) word s is at below =
    let long = head_long ws x (same_first (map length ws) (replicate x.count x.width) (word_sizes rest) (sizes_of_signals xs) is) in
    let inner = in_order f xs rest i word s (tail_is (map length ws) (replicate x.count x.width) (word_sizes rest) (sizes_of_signals xs) is) at below in
    let place : (x.count + words_before xs i) + word ≡ length ws + (words_before xs i + word) = omega (arith, long) in
    ap (λ l. ws ++ l) inner ∙ sym (changed_after f ws (words_in_order rest) (words_before xs i + word) ((x.count + words_before xs i) + word) place)

-- ---- spots

pub spots_hold : (signals : List Signal) (spot : Spot) (store : Store) → IsSpotIn signals spot → IsStoreOf signals store → SpotHolds spot store
spots_hold signals spot store h is =
    let k = word_numbered signals store spot.signal spot.word h.declared is h.at h.below in
    record {
      word = k.is ∙ ap (λ (n : ℕ). Some (numbered_word store n)) (sym h.numbered);
      within = let same = ap (λ (n : ℕ). length (numbered_word store n)) h.numbered in omega (arith, h.inside, k.size, same);
      write = λ digits.
          in_order (overlaid (pos spot.shift) digits) signals store spot.signal spot.word h.declared is h.at h.below
          ∙ ap (λ (n : ℕ). changed_at (overlaid (pos spot.shift) digits) n (words_in_order store)) (sym h.numbered);
    }

-- ---- masks

power : (k : ℕ) → k ≤ 63 → 1 * 2 ^ k % 2 ^ 64 ≡ 2 ^ k
power k h = omega (arith, pow-le-pow_right {n = 2} (omega arith) {i = k} {j = 63} h)

pub mask_top : (low width : ℕ) → low ≤ 63 → low + width ≡ 64 → 2 ^ 64 - 1 - (1 * 2 ^ low % 2 ^ 64 - 1) ≡ 2 ^ (low + width) - 2 ^ low
mask_top low width h e =
    let mask : 2 ^ 64 - 1 - (1 * 2 ^ low % 2 ^ 64 - 1) ≡ 2 ^ 64 - 2 ^ low = omega (arith, power low h, pow_pos low) in
    mask ∙ sym (ap (λ (n : ℕ). 2 ^ n - 2 ^ low) e)

pub mask_below : (low width : ℕ) → low + width ≤ 63 → 1 * 2 ^ (low + width) % 2 ^ 64 - 1 * 2 ^ low % 2 ^ 64 ≡ 2 ^ (low + width) - 2 ^ low
mask_below low width h = ap₂ (λ (a c : ℕ). a - c) (power (low + width) h) (power low (omega arith))

pub mask_grows : (low width : ℕ) → low + width ≤ 63 → 1 * 2 ^ low % 2 ^ 64 ≤ 1 * 2 ^ (low + width) % 2 ^ 64
mask_grows low width h =
    omega (arith, power low (omega arith), power (low + width) h, pow-le-pow_right {n = 2} (omega arith) {i = low} {j = low + width} (omega arith))

-- ---- targets

-- an element that a slice has
pub found_there : {A : Type 0} (xs : List A) (i : ℕ) (x : A) → true ≡ ltb i (length xs) → x ≡ get_or xs i x → slice_get xs i ≡ Some x
found_there xs i x within is = slice_get-get_or xs i x (ltb-true i (length xs) (sym within)) ∙ ap Some (sym is)

abbrev pub part_of : ℕ → ℕ → ℤ → List Digit → Write
part_of signal word low digits = record { signal = signal; word = word; low = low; digits = digits } ∷ []

-- one fixed place with its bits in a word is the spot of it
fixed_spot : (signals : List Signal) (t : Target) (s : Slice) (spot : Spot) → t.parts.items ≡ Fixed s ∷ [] → s.width ≡ t.width → IsSpotIn signals spot → s.low ≡ pos spot.shift → spot.width ≡ s.width →
    spot.signal ≡ s.signal → spot.word ≡ s.word → IsSpotOf signals t spot
fixed_spot signals t s spot parts wide inside low width signal word = record {
  inside = inside;
  writes = λ digits store time.
      let ds : List Digit = resized false t.width digits in
      let whole : selected (pos 0) s.width ds ≡ resized false spot.width digits =
      sym (selected_whole s.width ds (length-resized false t.width digits ∙ sym wide)) ∙ ap (λ (n : ℕ). resized false n digits) (sym wide ∙ sym width) in
      ap (λ (as' : List Aim). parts_from 0 as' ds store time) parts
      ∙ ap (λ (d : List Digit). part_of s.signal s.word s.low d) whole
      ∙ ap (λ (z : ℤ). part_of s.signal s.word z (resized false spot.width digits)) low
      ∙ ap₂ (λ (n w : ℕ). part_of n w (pos spot.shift) (resized false spot.width digits)) (sym signal) (sym word);
}

pub spot_is : (signals : List Signal) (t : Target) (s : Slice) (o : Option Spot) → t.parts.items ≡ Fixed s ∷ [] → s.width ≡ t.width → IfSome o (λ spot. IsSpotIn signals spot) →
    IfSome o (λ spot. s.low ≡ pos spot.shift) → IfSome o (λ spot. spot.width ≡ s.width) → IfSome o (λ spot. spot.signal ≡ s.signal) → IfSome o (λ spot. spot.word ≡ s.word) →
    IfSome o (λ spot. IsSpotOf signals t spot)
spot_is signals t s None parts wide inside low width signal word = tt
spot_is signals t s (Some spot) parts wide inside low width signal word = fixed_spot signals t s spot parts wide inside low width signal word

-- ---- writes

-- a write of one part, all in range, is the write to its spot
pub spot_written : (w : Write) (part : Part) (spot : Spot) → w ≡ part ∷ [] → part.low ≡ pos spot.shift → spot.signal ≡ part.signal → spot.word ≡ part.word → w ≡ spot_write spot part.digits
spot_written w part spot one low signal word =
    one
    ∙ ap (λ (z : ℤ). part_of part.signal part.word z part.digits) low
    ∙ ap₂ (λ (n k : ℕ). part_of n k (pos spot.shift) part.digits) (sym signal) (sym word)
