-- The digits that a value change dump keeps and their characters, found from two planes of bits.
use Rattle.std.proofs.Common.{◌≡◌, ℕ, zero, suc, ◌+◌, ◌-◌, ◌*◌, ◌/◌, ◌%◌, ◌^◌, ◌<◌, ◌≤◌, Bool, true, false, cond, not, eqb, max, min, Some, List, [], ◌∷◌, ◌++◌, length, length-set, get_or, get_or-set_same, get_or-set_other, set, take, drop, reverse, map, bit_and, bit_or, refl, sym, ap, append_assoc, ◌∙◌, ⊎_elim, arith}
use Rattle.std.specs.Int.{bit_at}
use Rattle.std.specs.Int.RustNames.{bit_xor}
use Rattle.std.specs.Int.Count.{count_leading_zeros}
use Rattle.std.specs.Prelude.{slice_get, codes}
use Rattle.std.proofs.Math.Seq.{take-length}
use Rattle.std.specs.Simd.Lanes.{put_chunk, top}
use Rattle.std.proofs.lemmas.Bool.{cases_lt, eq-eqb, ne_eqb}
use Rattle.std.proofs.lemmas.Simd.{get_or-put_chunk_above, get_or-put_chunk_at}
use Rattle.std.proofs.lemmas.Nat.{shr_split, shr-shr, shr_le, and_le_r, leading_top, pow_pos}
use Rattle.std.proofs.lemmas.Nat.Bits.{and_pow, bit_at_lowest, bit_at-suc, bit_at-zero, bit_at-lt, bit_at_and, bit_at_or, bit_at_xor, bit_at_ones, bit_at_ones_above, bit_at_above, bit_at_cat_low, bit_at_cat_high, ones_shr}
use Rattle.std.proofs.lemmas.List.{take_more, take_more_set, drop_more, drop_at, drop-take, drop-append-le, length-take-le, length-reverse, length-map, length-drop, get_or-drop, get_or-map, get_or-reverse, get_or-take, ext_get_or}
use Rattle.vs_design.specs.vs_logic4.specs.declared.digit.Digit.{Digit}
use Rattle.vs_design.specs.vs_logic4.specs.declared.digit.Digit.TheVariants.{X}
use Rattle.vs_design.specs.vs_logic4.specs.Planes.{digit_of_bits, value_plane, unknown_plane}
use Rattle.vs_design.specs.vs_logic4.specs.PlaneLaws.{at_bit, digits_of_planes-of, slice_get-digits_of_planes, get_or-digits_of_planes}
use Rattle.vs_vcd_writing.specs.Values.{digit_character, is_extension, shortened, value_change}
use Rattle.vs_vcd_writing.specs.Kept.{before_code}
use Rattle.vs_vcd_writing.proofs.ValueLemmas.{shortened-less, shortened-kept, shortened-one}
use Rattle.vs_design.specs.vs_logic4.proofs.Basics.{bit_at-shr, bit_at-wrapped}

-- the digit that two planes have at a place
abbrev pub digit_at : ℕ → ℕ → ℕ → Digit
digit_at value unknown k = digit_of_bits (bit_at value k) (bit_at unknown k)

-- ---- the places whose digits are kept

bit_at-doubled : (p k : ℕ) → suc k < 64 → bit_at (p * 2 % 2 ^ 64) (suc k) ≡ bit_at p k
bit_at-doubled p k h =
    bit_at-wrapped (p * 2) (suc k) h ∙ bit_at-suc (p * 2) k ∙ ap (λ q. bit_at q k) (let e : p * 2 / 2 ≡ p = omega arith in e)

at_bits : (P : ℕ → ℕ → Type 0) → P 0 0 → P 0 1 → P 1 0 → P 1 1 → (a b : ℕ) → a < 2 → b < 2 → P a b
at_bits P p q r s a b h k = at_bit (λ c. P c b) (at_bit (λ d. P 0 d) p q b k) (at_bit (λ d. P 1 d) r s b k) a h

-- the bit of a place, made from the bits of its digit (a, b) and of the digit below (c, d)
place_bit : (a b c d : ℕ) → a < 2 → b < 2 → c < 2 → d < 2
    → max (max ((b + d) % 2) ((a + min b c) % 2)) 0 ≡ cond (is_extension (digit_of_bits a b) (digit_of_bits c d)) 0 1
place_bit a b c d h k l m =
    let P : ℕ → ℕ → ℕ → ℕ → Type 0 = λ a b c d. max (max ((b + d) % 2) ((a + min b c) % 2)) 0 ≡ cond (is_extension (digit_of_bits a b) (digit_of_bits c d)) 0 1 in
    at_bits (λ x y. P x y c d)
    (at_bits (λ z w. P 0 0 z w) refl refl refl refl c d l m)
    (at_bits (λ z w. P 0 1 z w) refl refl refl refl c d l m)
    (at_bits (λ z w. P 1 0 z w) refl refl refl refl c d l m)
    (at_bits (λ z w. P 1 1 z w) refl refl refl refl c d l m)
    a b h k

pub places_lowest : (n : ℕ) → bit_at (bit_or n 1) 0 ≡ 1
places_lowest n = bit_at_or n 1 0 ∙ omega (arith, bit_at-lt n 0)

pub places_others : (v u k : ℕ) → suc k < 64
    → bit_at (bit_or (bit_or (bit_xor u (u * 2 % 2 ^ 64)) (bit_xor v (bit_and u (v * 2 % 2 ^ 64)))) 1) (suc k) ≡ cond (is_extension (digit_at v u (suc k)) (digit_at v u k)) 0 1
places_others v u k h =
    let left = bit_xor u (u * 2 % 2 ^ 64) in
    let right = bit_xor v (bit_and u (v * 2 % 2 ^ 64)) in
    let one : bit_at 1 (suc k) ≡ 0 = bit_at-suc 1 k ∙ bit_at-zero k in
    bit_at_or (bit_or left right) 1 (suc k)
    ∙ ap (λ n. max n (bit_at 1 (suc k))) (bit_at_or left right (suc k))
    ∙ ap (λ n. max (max (bit_at left (suc k)) (bit_at right (suc k))) n) one
    ∙ ap (λ n. max (max n (bit_at right (suc k))) 0)
    (bit_at_xor u (u * 2 % 2 ^ 64) (suc k) ∙ ap (λ n. (bit_at u (suc k) + n) % 2) (bit_at-doubled u k h))
    ∙ ap (λ n. max (max ((bit_at u (suc k) + bit_at u k) % 2) n) 0)
    (bit_at_xor v (bit_and u (v * 2 % 2 ^ 64)) (suc k)
    ∙ ap (λ n. (bit_at v (suc k) + n) % 2) (bit_at_and u (v * 2 % 2 ^ 64) (suc k) ∙ ap (λ n. min (bit_at u (suc k)) n) (bit_at-doubled v k h)))
    ∙ place_bit (bit_at v (suc k)) (bit_at u (suc k)) (bit_at v k) (bit_at u k) (bit_at-lt v (suc k)) (bit_at-lt u (suc k)) (bit_at-lt v k) (bit_at-lt u k)

-- ---- how many digits are kept

digit_is : (ds : List Digit) (i : ℕ) → i < length ds → slice_get ds i ≡ Some (digit_at (value_plane ds) (unknown_plane ds) i)
digit_is ds i h =
    ap (λ l. slice_get l i) (sym (digits_of_planes-of ds)) ∙ slice_get-digits_of_planes (length ds) (value_plane ds) (unknown_plane ds) i h

-- the digits above a place are dropped where extending gives each back from the one below
dropped_above : (ds : List Digit) (j n : ℕ) → suc j + n ≤ length ds
    → ((i : ℕ) → j ≤ i → suc i < suc j + n → is_extension (digit_at (value_plane ds) (unknown_plane ds) (suc i)) (digit_at (value_plane ds) (unknown_plane ds) i) ≡ true)
    → shortened (reverse (take (suc j + n) ds)) ≡ shortened (reverse (take (suc j) ds))
dropped_above ds j zero h each = ap (λ k. shortened (reverse (take k ds))) (let e : suc j + 0 ≡ suc j = omega arith in e)
dropped_above ds j (suc m) h each =
    shortened-less ds (suc j + suc m) (suc (j + m)) (j + m) (digit_at (value_plane ds) (unknown_plane ds) (suc (j + m))) (digit_at (value_plane ds) (unknown_plane ds) (j + m))
    (omega arith) refl (digit_is ds (suc (j + m)) (omega arith)) (digit_is ds (j + m) (omega arith)) (each (j + m) (omega arith) (omega arith))
    ∙ ap (λ k. shortened (reverse (take k ds))) (let e : suc (j + m) ≡ suc j + m = omega arith in e)
    ∙ dropped_above ds j m (omega arith) (λ i l k. each i l (omega arith))

kept_below : (ds : List Digit) (j : ℕ) → suc j ≤ length ds
    → ((i : ℕ) → suc i ≡ j → is_extension (digit_at (value_plane ds) (unknown_plane ds) (suc i)) (digit_at (value_plane ds) (unknown_plane ds) i) ≡ false)
    → shortened (reverse (take (suc j) ds)) ≡ reverse (take (suc j) ds)
kept_below ds zero h top = shortened-one (take 1 ds) (length-take-le 1 ds h)
kept_below ds (suc i) h top =
    shortened-kept ds (suc (suc i)) (suc i) i (digit_at (value_plane ds) (unknown_plane ds) (suc i)) (digit_at (value_plane ds) (unknown_plane ds) i) refl refl
    (digit_is ds (suc i) (omega arith)) (digit_is ds i (omega arith)) (top i refl)

extension-zero : (b : Bool) → cond {A = ℕ} b 0 1 ≡ 0 → b ≡ true
extension-zero true h = refl
extension-zero false h = cc

extension-one : (b : Bool) → cond {A = ℕ} b 0 1 ≡ 1 → b ≡ false
extension-one true h = cc
extension-one false h = refl

-- the highest place that is kept
kept_at : (ds : List Digit) (places masked j : ℕ) → masked ≡ bit_and places (2 ^ length ds - 1) → length ds ≤ 64
    → ((k : ℕ) → suc k < 64 → bit_at places (suc k) ≡ cond (is_extension (digit_at (value_plane ds) (unknown_plane ds) (suc k)) (digit_at (value_plane ds) (unknown_plane ds) k)) 0 1)
    → 2 ^ j ≤ masked → masked < 2 ^ suc j
    → (suc j ≤ length ds) × (reverse (take (suc j) ds) ≡ shortened (reverse ds))
kept_at ds places masked j e most others low high =
    let V = value_plane ds in
    let U = unknown_plane ds in
    let cut : masked ≡ 1 * 2 ^ j + (masked - 2 ^ j) = omega arith in
    let rest : masked - 2 ^ j < 2 ^ j = omega arith in
    let top : bit_at masked j ≡ 1 = ap (λ n. bit_at n j) cut ∙ bit_at_cat_high 1 j (masked - 2 ^ j) j rest (omega arith) ∙ ap (λ n. bit_at 1 n) (let z : j - j ≡ 0 = omega arith in z) in
    let is : (i : ℕ) → bit_at masked i ≡ min (bit_at places i) (bit_at (2 ^ length ds - 1) i) = λ i. ap (λ n. bit_at n i) e ∙ bit_at_and places (2 ^ length ds - 1) i in
    let within : suc j ≤ length ds = ⊎_elim
    (λ (p : j < length ds). let q : suc j ≤ length ds = omega arith in q)
    (λ (p : length ds ≤ j). let none = bit_at_ones_above (length ds) j p in absurd (omega (arith, top, is j, none)))
    (cases_lt j (length ds)) in
    let same : (i : ℕ) → i < length ds → bit_at masked i ≡ bit_at places i = λ i h. is i ∙ rw (bit_at_ones (length ds) i h) (omega (arith, bit_at-lt places i)) in
    let each : (i : ℕ) → j ≤ i → suc i < length ds → is_extension (digit_at V U (suc i)) (digit_at V U i) ≡ true = λ i l h.
    extension-zero (is_extension (digit_at V U (suc i)) (digit_at V U i)) (sym (others i (omega arith)) ∙ sym (same (suc i) h) ∙ bit_at_above masked (suc j) (suc i) high (omega arith)) in
    let here : (i : ℕ) → suc i ≡ j → is_extension (digit_at V U (suc i)) (digit_at V U i) ≡ false = λ i h.
    extension-one (is_extension (digit_at V U (suc i)) (digit_at V U i)) (sym (others i (omega arith)) ∙ sym (same (suc i) (omega arith)) ∙ ap (λ n. bit_at masked n) h ∙ top) in
    let whole : suc j + (length ds - suc j) ≡ length ds = omega arith in (
      within,
      sym (kept_below ds j within here)
          ∙ sym (dropped_above ds j (length ds - suc j) (omega arith) (λ i l h. each i l (omega arith)))
          ∙ ap (λ k. shortened (reverse (take k ds))) whole
          ∙ ap (λ l. shortened (reverse l)) (take-length ds),
    )

-- the count of leading zeros says how many digits are kept
pub kept_count : (ds : List Digit) (places v u w : ℕ) → v ≡ value_plane ds → u ≡ unknown_plane ds → w ≡ length ds → 0 < w → w ≤ 64 → bit_at places 0 ≡ 1
    → ((k : ℕ) → suc k < 64 → bit_at places (suc k) ≡ cond (is_extension (digit_at v u (suc k)) (digit_at v u k)) 0 1)
    → let kept = 64 - count_leading_zeros 64 (bit_and places ((2 ^ 64 - 1) / 2 ^ (64 - w))) in (kept ≤ length ds) × (reverse (take kept ds) ≡ shortened (reverse ds))
kept_count ds places v u w is_v is_u is_w some most lowest others =
    let mask : (2 ^ 64 - 1) / 2 ^ (64 - w) ≡ 2 ^ w - 1 = ones_shr 64 (64 - w) (omega arith) ∙ ap (λ n. 2 ^ n - 1) (let e : 64 - (64 - w) ≡ w = omega arith in e) in
    let masked = bit_and places ((2 ^ 64 - 1) / 2 ^ (64 - w)) in
    let is : masked ≡ bit_and places (2 ^ w - 1) = ap (λ n. bit_and places n) mask in
    let small : masked < 2 ^ 64 = omega (arith, and_le_r places ((2 ^ 64 - 1) / 2 ^ (64 - w)), shr_le (2 ^ 64 - 1) (64 - w)) in
    let first : bit_at masked 0 ≡ 1 = ap (λ n. bit_at n 0) is ∙ bit_at_and places (2 ^ w - 1) 0 ∙ rw (bit_at_ones w 0 some, lowest) refl in
    let low : masked % 2 ≡ 1 = sym (bit_at_lowest masked) ∙ first in
    let place = leading_top 64 masked (omega arith) small in
    let is_ds : masked ≡ bit_and places (2 ^ length ds - 1) = is ∙ ap (λ n. bit_and places (2 ^ n - 1)) is_w in
    let k = kept_at ds places masked place.0 is_ds (omega arith) (λ k h. others k h ∙ rw (is_v, is_u) refl) place.2 place.3 in
    let kept : 64 - count_leading_zeros 64 masked ≡ suc place.0 = omega (arith, place.1) in
    (rw kept k.0, rw kept k.1)

-- ---- the characters

-- what stands in the room up to place 64, a character for each digit, is the text of the digits
room_holds : (room : List ℕ) (ds : List Digit) (v u count : ℕ) → v ≡ value_plane ds → u ≡ unknown_plane ds → length room ≡ 80 → count ≤ length ds → count ≤ 64
    → ((k : ℕ) → k < count → get_or room (64 - k) 0 ≡ digit_character (digit_at v u k))
    → drop (65 - count) (take 65 room) ≡ map digit_character (reverse (take count ds))
room_holds room ds v u count is_v is_u long within most each =
    let few : length (take count ds) ≡ count = length-take-le count ds within in
    let turned : length (reverse (take count ds)) ≡ count = length-reverse (take count ds) ∙ few in
    let right : length (map digit_character (reverse (take count ds))) ≡ count = length-map (reverse (take count ds)) digit_character ∙ turned in
    let front : length (take 65 room) ≡ 65 = length-take-le 65 room (omega arith) in
    let left : length (drop (65 - count) (take 65 room)) ≡ count = length-drop (65 - count) (take 65 room) ∙ omega arith in
    ext_get_or 0 (drop (65 - count) (take 65 room)) (map digit_character (reverse (take count ds))) (left ∙ sym right)
    (λ i h.
    let below : i < count = omega (arith, h, left) in
    let k = count - 1 - i in
    let place : 65 - count + i ≡ 64 - k = omega arith in
    let inside : 64 - k < 65 = omega arith in
    let less : k < count = omega arith in
    let in_text : i < length (reverse (take count ds)) = omega arith in
    let in_digits : i < length (take count ds) = omega arith in
    let turn : length (take count ds) - 1 - i ≡ k = omega arith in
    let digit : get_or (take count ds) k X ≡ digit_at (value_plane ds) (unknown_plane ds) k =
    get_or-take count ds k X less ∙ ap (λ l. get_or l k X) (sym (digits_of_planes-of ds)) ∙ get_or-digits_of_planes (length ds) (value_plane ds) (unknown_plane ds) k X (omega arith) in
    get_or-drop (65 - count) (take 65 room) i 0 ∙ ap (λ n. get_or (take 65 room) n 0) place ∙ get_or-take 65 room (64 - k) 0 inside
    ∙ each k less ∙ ap digit_character (rw (is_v, is_u) refl)
    ∙ sym (get_or-map digit_character (reverse (take count ds)) i X 0 in_text
    ∙ ap digit_character (get_or-reverse (take count ds) i X in_digits ∙ ap (λ n. get_or (take count ds) n X) turn ∙ digit)))

-- with `b` before them and a space behind them
between : (room : List ℕ) (count : ℕ) (text : List ℕ) → length room ≡ 80 → count ≤ 64 → get_or room (64 - count) 0 ≡ 98 → get_or room 65 0 ≡ 32 → drop (65 - count) (take 65 room) ≡ text
    → drop (64 - count) (take 66 room) ≡ codes "b" ++ text ++ codes " "
between room count text long most first last mid =
    let front : length (take 65 room) ≡ 65 = length-take-le 65 room (omega arith) in
    let inside : 64 - count < length (take 65 room) = omega arith in
    let place : 64 - count + 1 ≡ 65 - count = omega arith in
    let at : 64 - count < 65 = omega arith in
    ap (drop (64 - count)) (take_more room 65 0 (omega arith) ∙ ap (λ c. take 65 room ++ c ∷ []) last)
    ∙ drop-append-le (64 - count) (take 65 room) (32 ∷ []) (omega arith)
    ∙ ap (λ l. l ++ 32 ∷ []) (drop_more (take 65 room) (64 - count) 0 inside
    ∙ ap (λ c. c ∷ drop (64 - count + 1) (take 65 room)) (get_or-take 65 room (64 - count) 0 at ∙ first)
    ∙ ap (λ n. 98 ∷ drop n (take 65 room)) place ∙ ap (λ l. 98 ∷ l) mid)

two_digits : (ds : List Digit) → (length ds ≡ 1 → ⊥) → before_code ds ≡ codes "b" ++ map digit_character (shortened (reverse ds)) ++ codes " "
two_digits [] h = refl
two_digits (d ∷ []) h = absurd (h refl)
two_digits (d ∷ e ∷ ds) h = refl

-- what is written of more than one digit
pub value_holds : (room : List ℕ) (ds : List Digit) (v u count : ℕ) → v ≡ value_plane ds → u ≡ unknown_plane ds → length room ≡ 80 → count ≤ length ds → count ≤ 64 → (length ds ≡ 1 → ⊥)
    → reverse (take count ds) ≡ shortened (reverse ds) → ((k : ℕ) → k < count → get_or room (64 - k) 0 ≡ digit_character (digit_at v u k))
    → drop (64 - count) (take 66 (set (set room (64 - count) 98) 65 32)) ≡ before_code ds
value_holds room ds v u count is_v is_u long within most many kept each =
    let marked = set room (64 - count) 98 in
    let both = set marked 65 32 in
    let length_marked : length marked ≡ 80 = length-set room (64 - count) 98 ∙ long in
    let length_both : length both ≡ 80 = length-set marked 65 32 ∙ length_marked in
    between both count (map digit_character (shortened (reverse ds))) length_both most
    (get_or-set_other marked 65 (64 - count) 32 0 (λ e. omega (arith, e)) ∙ get_or-set_same room (64 - count) 98 0 (omega arith))
    (get_or-set_same marked 65 32 0 (omega arith))
    (room_holds both ds v u count is_v is_u length_both within most
    (λ k h. get_or-set_other marked 65 (64 - k) 32 0 (λ e. omega (arith, e)) ∙ get_or-set_other room (64 - count) (64 - k) 98 0 (λ e. omega (arith, e, h, most)) ∙ each k h)
    ∙ ap (map digit_character) kept)
    ∙ sym (two_digits ds many)

-- what is written of one digit
pub digit_holds : (room : List ℕ) (ds : List Digit) (d : Digit) (c : ℕ) → length room ≡ 80 → length ds ≡ 1 → slice_get ds 0 ≡ Some d → c ≡ digit_character d
    → drop 65 (take 66 (set room 65 c)) ≡ before_code ds
digit_holds room [] d c long one is same = cc
digit_holds room (e ∷ f ∷ ds) d c long one is same = absurd (omega (arith, one))
digit_holds room (e ∷ []) d c long one is same =
    let front : length (take 65 room) ≡ 65 = length-take-le 65 room (omega arith) in
    let given : e ≡ d = cc in
    ap (drop 65) (take_more_set room 65 c (omega arith)) ∙ drop_at (take 65 room) (c ∷ []) 65 front ∙ ap (λ x. x ∷ []) (same ∙ ap digit_character (sym given))

before : (ds : List Digit) (code : List ℕ) → before_code ds ++ code ≡ value_change ds code
before [] code = refl
before (d ∷ []) code = refl
before (d ∷ e ∷ ds) code = refl

-- the room holds the line of a change
pub line_holds : (mid new : List ℕ) (ds : List Digit) (code : List ℕ) (start end : ℕ) → length mid ≡ 80 → length new ≡ 80 → start ≤ 66 → end ≤ 76 → drop start (take 66 mid) ≡ before_code ds
    → take end new ≡ take 66 mid ++ code → 66 ≤ end → take (end + 1 - start) (drop start (set new end 10)) ≡ value_change ds code ++ 10 ∷ []
line_holds mid new ds code start end long_mid long_new low high value codes least =
    let front : length (take 66 mid) ≡ 66 = length-take-le 66 mid (omega arith) in
    let whole : start + (end + 1 - start) ≡ end + 1 = omega arith in
    sym (drop-take start (end + 1 - start) (set new end 10))
    ∙ ap (λ n. drop start (take n (set new end 10))) whole
    ∙ ap (drop start) (take_more_set new end 10 (omega arith) ∙ ap (λ l. l ++ 10 ∷ []) codes ∙ append_assoc (take 66 mid) code (10 ∷ []))
    ∙ drop-append-le start (take 66 mid) (code ++ 10 ∷ []) (omega arith)
    ∙ ap (λ l. l ++ (code ++ 10 ∷ [])) value
    ∙ sym (append_assoc (before_code ds) code (10 ∷ []))
    ∙ ap (λ l. l ++ 10 ∷ []) (before ds code)

-- the room holds a code
pub code_holds : (mid new code : List ℕ) (end : ℕ) → take end new ≡ take 66 mid ++ code → 66 ≤ end → length mid ≡ 80 → take (end - 66) (drop 66 new) ≡ code
code_holds mid new code end codes least long =
    let front : length (take 66 mid) ≡ 66 = length-take-le 66 mid (omega arith) in
    let whole : 66 + (end - 66) ≡ end = omega arith in
    sym (drop-take 66 (end - 66) new) ∙ ap (λ n. drop 66 (take n new)) whole ∙ ap (drop 66) codes ∙ drop_at (take 66 mid) code 66 front

-- eight more characters stand in the room, below those of the lower digits
pub eight_more : (room lanes : List ℕ) (v u at done : ℕ) → length room ≡ 80 → length lanes ≡ 8 → at + 8 + done ≡ 65
    → ((k : ℕ) → k < done → get_or room (64 - k) 0 ≡ digit_character (digit_at v u k))
    → ((k : ℕ) → k < 8 → get_or lanes (7 - k) 0 ≡ digit_character (digit_at (v / 2 ^ done) (u / 2 ^ done) k))
    → (k : ℕ) → k < done + 8 → get_or (put_chunk at room lanes) (64 - k) 0 ≡ digit_character (digit_at v u k)
eight_more room lanes v u at done long eight room_left before lane k h = ⊎_elim
    (λ (p : k < done). get_or-put_chunk_above at room lanes (64 - k) 0 (omega arith) ∙ before k p)
    (λ (p : done ≤ k).
    let j = k - done in
    let few : j < 8 = omega arith in
    let place : 64 - k ≡ at + (7 - j) = omega arith in
    let up : done + j ≡ k = omega arith in
    ap (λ n. get_or (put_chunk at room lanes) n 0) place
    ∙ get_or-put_chunk_at at room lanes (7 - j) 0 (omega arith) (omega arith)
    ∙ lane j few
    ∙ ap (λ n. digit_character (digit_of_bits n (bit_at (u / 2 ^ done) j))) (bit_at-shr v done j ∙ ap (λ n. bit_at v n) up)
    ∙ ap (λ n. digit_character (digit_of_bits (bit_at v k) n)) (bit_at-shr u done j ∙ ap (λ n. bit_at u n) up))
    (cases_lt k done)

-- ---- eight characters

-- the character of a place in eight lanes, from the lanes' tests of its bit in both planes
lane_character : (a b p : ℕ) → a < 2 → b < 2 → 0 < p → (m n : ℕ) → m ≡ a * p → n ≡ b * p
    → cond {A = ℕ} (top 7 (cond {A = ℕ} (not (eqb n 0)) 255 0)) (cond {A = ℕ} (top 7 (cond {A = ℕ} (not (eqb m 0)) 255 0)) 120 122) (cond {A = ℕ} (top 7 (cond {A = ℕ} (not (eqb m 0)) 255 0)) 49 48)
    ≡ digit_character (digit_of_bits a b)
lane_character a b p h k some m n is_m is_n =
    let P : ℕ → ℕ → Type 0 = λ a b. cond {A = ℕ} (top 7 (cond {A = ℕ} (not (eqb (b * p) 0)) 255 0)) (cond {A = ℕ} (top 7 (cond {A = ℕ} (not (eqb (a * p) 0)) 255 0)) 120 122) (cond {A = ℕ} (top 7 (cond {A = ℕ} (not (eqb (a * p) 0)) 255 0)) 49 48)
    ≡ digit_character (digit_of_bits a b) in
    let no : eqb (0 * p) 0 ≡ true = eq-eqb (0 * p) 0 (omega arith) in
    let yes : eqb (1 * p) 0 ≡ false = ne_eqb (1 * p) 0 (omega arith) in
    rw (is_m, is_n) (at_bits P (rw no refl) (rw (no, yes) refl) (rw (no, yes) refl) (rw yes refl) a b h k)

low_bit : (v k : ℕ) → k < 8 → bit_and (v % 256) (2 ^ k) ≡ bit_at v k * 2 ^ k
low_bit v k h =
    let whole : v ≡ v / 2 ^ 8 * 2 ^ 8 + v % 2 ^ 8 = sym (shr_split v 8) in
    and_pow (v % 256) k ∙ ap (λ n. n * 2 ^ k) (sym (ap (λ q. bit_at q k) whole ∙ bit_at_cat_low (v / 2 ^ 8) 8 (v % 2 ^ 8) k h))

-- the character of a place of the lowest eight
pub lane_of : (v u k : ℕ) → k < 8
    → cond {A = ℕ} (top 7 (cond {A = ℕ} (not (eqb (bit_and (u % 256) (2 ^ k)) 0)) 255 0)) (cond {A = ℕ} (top 7 (cond {A = ℕ} (not (eqb (bit_and (v % 256) (2 ^ k)) 0)) 255 0)) 120 122) (cond {A = ℕ} (top 7 (cond {A = ℕ} (not (eqb (bit_and (v % 256) (2 ^ k)) 0)) 255 0)) 49 48)
    ≡ digit_character (digit_at v u k)
lane_of v u k h =
    lane_character (bit_at v k) (bit_at u k) (2 ^ k) (bit_at-lt v k) (bit_at-lt u k) (pow_pos k) (bit_and (v % 256) (2 ^ k)) (bit_and (u % 256) (2 ^ k)) (low_bit v k h) (low_bit u k h)
