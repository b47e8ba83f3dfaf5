-- Ranges of bits: what they hold, and what a write to a target of constant places leaves of them.
use Rattle.std.proofs.Common.{◌≡◌, ℕ, zero, suc, ◌+◌, ◌-◌, ◌<◌, ◌≤◌, ◌==◌, ◌&&◌, ◌||◌, ◌++◌, max, min, Bool, true, false, Option, Some, None, option_map, List, [], ◌∷◌, map, length, take, drop, replicate, slice_get, refl, sym, ◌∙◌, ap, ap₂, subst, inl, inr, pos, negsuc, ◌+ℤ◌, neg_ℤ, ℤ, arith, leb-true, ltb-true, le-leb, lt-ltb, eqb-true, eq-eqb, nat_le, nat_lt}
use Rattle.std.specs.Prelude.{slice_index_or}
use Rattle.std.specs.List.{list_any, list_all, flat_map, IsDistinct}
use Rattle.std.proofs.lemmas.Bool.{and_parts, and_from, and_cases, or_cases, or_parts, or_left, or_right, cases_Bool, cases_lt, leb-false, ltb-false, true≢false, false≢true}
use Rattle.std.proofs.lemmas.Int.{ints}
use Rattle.std.proofs.lemmas.List.Folds.{list_any-append}
use Rattle.std.proofs.lemmas.Map.Keys.{IsDistinct-head, IsDistinct-tail}
use Rattle.std.proofs.lemmas.Option.{slice_get_within, slice_get-map}
use Rattle.vs_design.specs.vs_logic4.specs.declared.digit.Digit.{Digit}
use Rattle.vs_design.specs.vs_logic4.specs.Lengths.{length-selected}
use Rattle.vs_design.specs.vs_logic4.specs.Parts.{digit_at, selected}
use Rattle.vs_design.specs.declared.design.Assign.{Assign}
use Rattle.vs_design.specs.declared.expression.Slice.{Slice}
use Rattle.vs_design.specs.declared.range.Bits.{Bits}
use Rattle.vs_design.specs.declared.range.BitRange.{BitRange}
use Rattle.vs_design.specs.declared.signal.Signal.{Signal}
use Rattle.vs_design.specs.declared.statement.Aim.{Aim}
use Rattle.vs_design.specs.declared.statement.Aim.TheVariants.{Fixed, Chosen}
use Rattle.vs_design.specs.declared.statement.Target.{Target}
use Rattle.vs_design.specs.declared.write.Part.{Part}
use Rattle.vs_design.specs.Parts.{Parts}
use Rattle.vs_design.specs.Stores.{Store, word_of, words_in, one_word, chosen_words, chosen_bits, content, start_word, start_words, start_store}
use Rattle.vs_design.specs.Uses.{aim_range, bits_from, bits_meet, covers, words_meet, has_bit, has_word, is_of, meet, slice_range, writes, writes_signal}
use Rattle.vs_design.specs.WellFormed.{width_at, bits_or_all, have_common, share_a_bit}
use Rattle.vs_design.specs.Writes.{Write, names}
use Rattle.vs_eval.specs.Laws.{digit_in, digit_of}
use Rattle.vs_eval.specs.Targets.{part_at, parts_from, assigned}
use Rattle.vs_process.proofs.ProcessLists.{all_of}
use Rattle.std.proofs.lemmas.Map.Keys.{any_passes_from_place as at_any}
use Rattle.vs_design.specs.vs_logic4.proofs.Basics.{element_of as any_at, same_lists as same_gets}
use Rattle.vs_process.proofs.Stores.{shape}
use Rattle.vs_process.proofs.Digits.{Fixes, Keeps, laid_part, laid_there, laid_elsewhere, length_in, lengths}
use Rattle.vs_design.proofs.Drivers.{length-start_digits}
use Rattle.vs_design.proofs.Stores.{word_in-words}
use Rattle.vs_design.specs.vs_logic4.proofs.Basics.{get-drop, get-take as get-take_low, tail_is}

-- ---- what a range holds

get-take_high : {A : Type 0} (n k : ℕ) (xs : List A) → n ≤ k → slice_get (take n xs) k ≡ None
get-take_high zero k xs h = refl
get-take_high (suc n) k [] h = refl
get-take_high (suc n) zero (x ∷ xs) h = absurd (omega (arith, h))
get-take_high (suc n) (suc k) (x ∷ xs) h = get-take_high n k xs (omega (arith, h))

-- words that agree at the places of a range have the same bits of it
bits_alike : (bits : Option Bits) (x y : List Digit) → ((k : ℕ) → has_bit bits k ≡ true → slice_get x k ≡ slice_get y k) → chosen_bits bits x ≡ chosen_bits bits y
bits_alike None x y h = same_gets x y (λ k. h k refl)
bits_alike (Some b) x y h = same_gets (take b.width (drop b.low x)) (take b.width (drop b.low y)) (λ k.
    elim (cases_lt k b.width) [
      | inl lt ↦
          let here : has_bit (Some b) (b.low + k) ≡ true = and_from (nat_le b.low (b.low + k)) (nat_lt (b.low + k) (b.low + b.width)) (le-leb b.low (b.low + k) (omega arith)) (lt-ltb (b.low + k) (b.low + b.width) (omega (arith, lt))) in
          get-take_low b.width k (drop b.low x) lt ∙ get-drop b.low k x ∙ h (b.low + k) here ∙ sym (get-take_low b.width k (drop b.low y) lt ∙ get-drop b.low k y)
      | inr le ↦ get-take_high b.width k (drop b.low x) le ∙ sym (get-take_high b.width k (drop b.low y) le)
    ])

words_alike : (bits : Option Bits) (xs ys : List (List Digit)) → map length xs ≡ map length ys →
    ((w k : ℕ) → has_bit bits k ≡ true → digit_in (slice_get xs w) k ≡ digit_in (slice_get ys w) k) → map (chosen_bits bits) xs ≡ map (chosen_bits bits) ys
words_alike bits [] [] long h = refl
words_alike bits [] (y ∷ ys) long h = cc
words_alike bits (x ∷ xs) [] long h = cc
words_alike bits (x ∷ xs) (y ∷ ys) long h =
    ap₂ (λ z zs. z ∷ zs) (bits_alike bits x y (h 0)) (words_alike bits xs ys (tail_is (length x) (length y) (map length xs) (map length ys) long) (λ w. h (suc w)))

one_alike : (bits : Option Bits) (x y : Option (List Digit)) → option_map length x ≡ option_map length y →
    ((k : ℕ) → has_bit bits k ≡ true → digit_in x k ≡ digit_in y k) → map (chosen_bits bits) (one_word x) ≡ map (chosen_bits bits) (one_word y)
one_alike bits None None long h = refl
one_alike bits None (Some y) long h = cc
one_alike bits (Some x) None long h = cc
one_alike bits (Some x) (Some y) long h = ap (λ z. z ∷ []) (bits_alike bits x y h)

chosen_alike : (word : Option ℕ) (bits : Option Bits) (xs ys : List (List Digit)) → map length xs ≡ map length ys →
    ((w k : ℕ) → has_word word w ≡ true → has_bit bits k ≡ true → digit_in (slice_get xs w) k ≡ digit_in (slice_get ys w) k) →
    map (chosen_bits bits) (chosen_words word xs) ≡ map (chosen_bits bits) (chosen_words word ys)
chosen_alike None bits xs ys long h = words_alike bits xs ys long (λ w k. h w k refl)
chosen_alike (Some n) bits xs ys long h =
    one_alike bits (slice_get xs n) (slice_get ys n) (sym (slice_get-map length xs n) ∙ ap (λ l. slice_get l n) long ∙ slice_get-map length ys n) (λ k. h n k (eq-eqb n n refl))

sizes_in : (a b : Option (List (List Digit))) → option_map (λ words. map length words) a ≡ option_map (λ words. map length words) b → map length (words_in a) ≡ map length (words_in b)
sizes_in None None h = refl
sizes_in None (Some y) h = cc
sizes_in (Some x) None h = cc
sizes_in (Some x) (Some y) h = cc

-- a signal's words have the sizes of those in a store of the same shape
pub same_sizes : (a b : Store) (v : ℕ) → shape a ≡ shape b → option_map (λ words. map length words) (slice_get a v) ≡ option_map (λ words. map length words) (slice_get b v)
same_sizes a b v h = sym (slice_get-map (λ words. map length words) a v) ∙ ap (λ l. slice_get l v) h ∙ slice_get-map (λ words. map length words) b v

-- stores of one shape with equal digits where a range has them hold the same there
pub same_content : (a b : Store) (r : BitRange) → shape a ≡ shape b → ((w k : ℕ) → covers r.signal w k r ≡ true → digit_of a r.signal w k ≡ digit_of b r.signal w k) → content r a ≡ content r b
same_content a b r h same =
    chosen_alike r.word r.bits (words_in (slice_get a r.signal)) (words_in (slice_get b r.signal)) (sizes_in (slice_get a r.signal) (slice_get b r.signal) (same_sizes a b r.signal h))
    (λ w k at_w at_k.
    ap (λ o. digit_in o k) (sym (word_in-words (slice_get a r.signal) w))
    ∙ same w k (and_from (is_of r.signal r && has_word r.word w) (has_bit r.bits k) (and_from (is_of r.signal r) (has_word r.word w) (eq-eqb r.signal r.signal refl) at_w) at_k)
    ∙ ap (λ o. digit_in o k) (word_in-words (slice_get b r.signal) w))

-- ---- parts at constant places

index_in : (ds : List Digit) (n : ℕ) → n < length ds → (d e : Digit) → slice_index_or ds n d ≡ slice_index_or ds n e
index_in [] n h d e = absurd (omega (arith, h))
index_in (x ∷ ds) zero h d e = refl
index_in (x ∷ ds) (suc n) h d e = index_in ds n (omega (arith, h)) d e

index_past : (ds : List Digit) (n : ℕ) → length ds ≤ n → (d : Digit) → slice_index_or ds n d ≡ d
index_past [] n h d = refl
index_past (x ∷ ds) zero h d = absurd (omega (arith, h))
index_past (x ∷ ds) (suc n) h d = index_past ds n (omega (arith, h)) d

pub in_part : (low : ℤ) (width k : ℕ) (ds : List Digit) → length ds ≡ width → has_bit (Some (bits_from low width)) k ≡ true → (d e : Digit) → digit_at (neg_ℤ low +ℤ pos k) ds d ≡ digit_at (neg_ℤ low +ℤ pos k) ds e
in_part (pos l) width k ds long h d e =
    let parts = and_parts (nat_le l k) (nat_lt k (l + width)) h in
    let low : l ≤ k = leb-true l k parts.0 in
    let high : k < l + width = ltb-true k (l + width) parts.1 in
    let place : neg_ℤ (pos l) +ℤ pos k ≡ pos (k - l) = omega (arith, ints, low) in
    ap (λ z. digit_at z ds d) place ∙ index_in ds (k - l) (omega (arith, low, high, long)) d e ∙ sym (ap (λ z. digit_at z ds e) place)
in_part (negsuc b) width k ds long h d e =
    let high : k < 0 + (width - suc b) = ltb-true k (0 + (width - suc b)) (and_parts (nat_le 0 k) (nat_lt k (0 + (width - suc b))) h).1 in
    let place : neg_ℤ (negsuc b) +ℤ pos k ≡ pos (suc b + k) = omega (arith, ints) in
    ap (λ z. digit_at z ds d) place ∙ index_in ds (suc b + k) (omega (arith, high, long)) d e ∙ sym (ap (λ z. digit_at z ds e) place)

out_part : (low : ℤ) (width k : ℕ) (ds : List Digit) → length ds ≡ width → has_bit (Some (bits_from low width)) k ≡ false → (d : Digit) → digit_at (neg_ℤ low +ℤ pos k) ds d ≡ d
out_part (pos l) width k ds long h d =
    elim (and_cases (nat_le l k) (nat_lt k (l + width)) h) [
      | inl below ↦
          let low : k < l = leb-false l k below in
          let place : neg_ℤ (pos l) +ℤ pos k ≡ negsuc (l - suc k) = omega (arith, ints, low) in
          ap (λ z. digit_at z ds d) place
      | inr above ↦
          let high : l + width ≤ k = ltb-false k (l + width) above in
          let place : neg_ℤ (pos l) +ℤ pos k ≡ pos (k - l) = omega (arith, ints, high) in
          ap (λ z. digit_at z ds d) place ∙ index_past ds (k - l) (omega (arith, high, long)) d
    ]
out_part (negsuc b) width k ds long h d =
    elim (and_cases (nat_le 0 k) (nat_lt k (0 + (width - suc b))) h) [
      | inl below ↦ absurd (let low : k < 0 = leb-false 0 k below in omega (arith, low))
      | inr above ↦
          let high : 0 + (width - suc b) ≤ k = ltb-false k (0 + (width - suc b)) above in
          let place : neg_ℤ (negsuc b) +ℤ pos k ≡ pos (suc b + k) = omega (arith, ints) in
          ap (λ z. digit_at z ds d) place ∙ index_past ds (suc b + k) (omega (arith, high, long)) d
    ]

-- the part of a write at a constant place
abbrev slice_part : Slice → List Digit → Part
slice_part s digits = part_at (Fixed s) digits [] 0

slice_covered : (v w k : ℕ) (s : Slice) (digits : List Digit) → length digits ≡ s.width → covers v w k (slice_range s) ≡ true → (d e : Digit) → laid_part (slice_part s digits) v w k d ≡ laid_part (slice_part s digits) v w k e
slice_covered v w k s digits long h d e =
    let parts = and_parts (s.signal == v && s.word == w) (has_bit (Some (bits_from s.low s.width)) k) h in
    laid_there (slice_part s digits) v w k d parts.0 ∙ in_part s.low s.width k digits long parts.1 d e ∙ sym (laid_there (slice_part s digits) v w k e parts.0)

slice_uncovered : (v w k : ℕ) (s : Slice) (digits : List Digit) → length digits ≡ s.width → covers v w k (slice_range s) ≡ false → (d : Digit) → laid_part (slice_part s digits) v w k d ≡ d
slice_uncovered v w k s digits long h d =
    elim (cases_Bool (s.signal == v && s.word == w)) [
      | inl hit ↦ laid_there (slice_part s digits) v w k d hit ∙ out_part s.low s.width k digits long (sym (ap (λ b. b && has_bit (Some (bits_from s.low s.width)) k) hit) ∙ h) d
      | inr miss ↦ laid_elsewhere (slice_part s digits) v w k d miss
    ]

-- ---- targets of constant places

abbrev pub is_fixed : Aim → Bool
is_fixed (Fixed s) = true
is_fixed (Chosen s word low) = false

-- a target has constant places alone
abbrev pub IsFixed : Target → Type 0
IsFixed t = list_all is_fixed t.parts.items ≡ true

-- the write to a target of constant places: no store is asked
abbrev pub fixed_write : Target → List Digit → Write
fixed_write t digits = assigned t digits [] 0

parts_same : (place : ℕ) (aims : List Aim) (digits : List Digit) (store : Store) (time : ℕ) → list_all is_fixed aims ≡ true → parts_from place aims digits store time ≡ parts_from place aims digits [] 0
parts_same place [] digits store time h = refl
parts_same place (Fixed s ∷ aims) digits store time h =
    ap (λ ps. slice_part s (selected (pos place) s.width digits) ∷ ps) (parts_same (place + s.width) aims digits store time h)
parts_same place (Chosen s word low ∷ aims) digits store time h = absurd (false≢true h)

pub assigned_fixed : (t : Target) (digits : List Digit) (store : Store) (time : ℕ) → IsFixed t → assigned t digits store time ≡ fixed_write t digits
assigned_fixed t digits store time h = parts_same 0 t.parts.items digits store time h

parts_keep : (v w k place : ℕ) (aims : List Aim) (digits : List Digit) → list_all is_fixed aims ≡ true → list_any (covers v w k) (map aim_range aims) ≡ false → Keeps (parts_from place aims digits [] 0) v w k
parts_keep v w k place [] digits h miss d = refl
parts_keep v w k place (Fixed s ∷ aims) digits h miss d =
    let ds = selected (pos place) s.width digits in
    let parts = or_parts (covers v w k (slice_range s)) (list_any (covers v w k) (map aim_range aims)) miss in
    parts_keep v w k (place + s.width) aims digits h parts.1 (laid_part (slice_part s ds) v w k d) ∙ slice_uncovered v w k s ds (length-selected (pos place) s.width digits) parts.0 d
parts_keep v w k place (Chosen s word low ∷ aims) digits h miss d = absurd (false≢true h)

parts_fix : (v w k place : ℕ) (aims : List Aim) (digits : List Digit) → list_all is_fixed aims ≡ true → list_any (covers v w k) (map aim_range aims) ≡ true → Fixes (parts_from place aims digits [] 0) v w k
parts_fix v w k place [] digits h hit d e = absurd (false≢true hit)
parts_fix v w k place (Fixed s ∷ aims) digits h hit d e =
    let ds = selected (pos place) s.width digits in
    elim (cases_Bool (list_any (covers v w k) (map aim_range aims))) [
      | inl rest ↦ parts_fix v w k (place + s.width) aims digits h rest (laid_part (slice_part s ds) v w k d) (laid_part (slice_part s ds) v w k e)
      | inr none ↦ elim (or_cases (covers v w k (slice_range s)) (list_any (covers v w k) (map aim_range aims)) hit) [
        | inl own ↦
            parts_keep v w k (place + s.width) aims digits h none (laid_part (slice_part s ds) v w k d)
            ∙ slice_covered v w k s ds (length-selected (pos place) s.width digits) own d e
            ∙ sym (parts_keep v w k (place + s.width) aims digits h none (laid_part (slice_part s ds) v w k e))
        | inr rest ↦ absurd (true≢false (sym rest ∙ none))
      ]
    ]
parts_fix v w k place (Chosen s word low ∷ aims) digits h hit d e = absurd (false≢true h)

-- a write keeps what its target doesn't cover
pub uncovered_keeps : (t : Target) (digits : List Digit) (v w k : ℕ) → IsFixed t → list_any (covers v w k) (writes t) ≡ false → Keeps (fixed_write t digits) v w k
uncovered_keeps t digits v w k h miss = parts_keep v w k 0 t.parts.items digits h miss

-- and fixes what it covers
pub covered_fixes : (t : Target) (digits : List Digit) (v w k : ℕ) → IsFixed t → list_any (covers v w k) (writes t) ≡ true → Fixes (fixed_write t digits) v w k
covered_fixes t digits v w k h hit = parts_fix v w k 0 t.parts.items digits h hit

parts_name : (place : ℕ) (aims : List Aim) (digits : List Digit) (store : Store) (time v : ℕ) → names (parts_from place aims digits store time) v ≡ list_any (is_of v) (map aim_range aims)
parts_name place [] digits store time v = refl
parts_name place (Fixed s ∷ aims) digits store time v = ap (λ b. s.signal == v || b) (parts_name (place + s.width) aims digits store time v)
parts_name place (Chosen s word low ∷ aims) digits store time v = ap (λ b. s.signal == v || b) (parts_name (place + s.width) aims digits store time v)

-- the write to a target names what the target does
pub assigned_names : (t : Target) (digits : List Digit) (store : Store) (time v : ℕ) → names (assigned t digits store time) v ≡ writes_signal t v
assigned_names t digits store time v = parts_name 0 t.parts.items digits store time v

-- what covers a bit is of its signal
pub covers_signal : (v w k : ℕ) (r : BitRange) → covers v w k r ≡ true → is_of v r ≡ true
covers_signal v w k r h = (and_parts (is_of v r) (has_word r.word w) (and_parts (is_of v r && has_word r.word w) (has_bit r.bits k) h).0).0

pub covered_signal : (v w k : ℕ) (t : Target) → list_any (covers v w k) (writes t) ≡ true → writes_signal t v ≡ true
covered_signal v w k t h =
    let found = any_at (covers v w k) (writes t) h in
    at_any (is_of v) (writes t) found.0 found.1 found.2 (covers_signal v w k found.1 found.3)

-- ---- bits in common

words_common : (a b : Option ℕ) (w : ℕ) → has_word a w ≡ true → has_word b w ≡ true → words_meet a b ≡ true
words_common None b w h g = refl
words_common (Some x) None w h g = refl
words_common (Some x) (Some y) w h g = eq-eqb x y (eqb-true x w h ∙ sym (eqb-true y w g))

bits_common : (a b : Option Bits) (k : ℕ) → has_bit a k ≡ true → has_bit b k ≡ true → bits_meet a b ≡ true
bits_common None None k h g = refl
bits_common None (Some c) k h g =
    let parts = and_parts (nat_le c.low k) (nat_lt k (c.low + c.width)) g in
    let low : c.low ≤ k = leb-true c.low k parts.0 in
    let high : k < c.low + c.width = ltb-true k (c.low + c.width) parts.1 in
    lt-ltb 0 c.width (omega (arith, low, high))
bits_common (Some b) None k h g =
    let parts = and_parts (nat_le b.low k) (nat_lt k (b.low + b.width)) h in
    let low : b.low ≤ k = leb-true b.low k parts.0 in
    let high : k < b.low + b.width = ltb-true k (b.low + b.width) parts.1 in
    lt-ltb 0 b.width (omega (arith, low, high))
bits_common (Some b) (Some c) k h g =
    let bs = and_parts (nat_le b.low k) (nat_lt k (b.low + b.width)) h in
    let cs = and_parts (nat_le c.low k) (nat_lt k (c.low + c.width)) g in
    let bl : b.low ≤ k = leb-true b.low k bs.0 in
    let bh : k < b.low + b.width = ltb-true k (b.low + b.width) bs.1 in
    let cl : c.low ≤ k = leb-true c.low k cs.0 in
    let ch : k < c.low + c.width = ltb-true k (c.low + c.width) cs.1 in
    lt-ltb (max b.low c.low) (min (b.low + b.width) (c.low + c.width)) (omega (arith, bl, bh, cl, ch))

-- two ranges that cover a bit have it in common
pub meets_covered : (v w k : ℕ) (r q : BitRange) → covers v w k r ≡ true → covers v w k q ≡ true → meet r q ≡ true
meets_covered v w k r q h g =
    let hs = and_parts (is_of v r && has_word r.word w) (has_bit r.bits k) h in
    let gs = and_parts (is_of v q && has_word q.word w) (has_bit q.bits k) g in
    let hw = and_parts (is_of v r) (has_word r.word w) hs.0 in
    let gw = and_parts (is_of v q) (has_word q.word w) gs.0 in
    and_from (r.signal == q.signal && words_meet r.word q.word) (bits_meet r.bits q.bits)
    (and_from (r.signal == q.signal) (words_meet r.word q.word) (eq-eqb r.signal q.signal (eqb-true r.signal v hw.0 ∙ sym (eqb-true q.signal v gw.0))) (words_common r.word q.word w hw.1 gw.1))
    (bits_common r.bits q.bits k hs.1 gs.1)

-- ---- no bit is driven twice

inside : (size k : ℕ) (o : Option Bits) → has_bit o k ≡ true → k < size → ((bits_or_all size o).low ≤ k) × (k < (bits_or_all size o).low + (bits_or_all size o).width)
inside size k None h lt = (omega arith, omega (arith, lt))
inside size k (Some b) h lt =
    let parts = and_parts (nat_le b.low k) (nat_lt k (b.low + b.width)) h in
    (leb-true b.low k parts.0, ltb-true k (b.low + b.width) parts.1)

-- two ranges that cover a bit of a signal share it
pub shares_covered : (ss : List Signal) (v w k : ℕ) (r q : BitRange) → k < width_at (slice_get ss v) → covers v w k r ≡ true → covers v w k q ≡ true → share_a_bit ss r q ≡ true
shares_covered ss v w k r q lt h g =
    let at_r : r.signal ≡ v = eqb-true r.signal v (covers_signal v w k r h) in
    let at_q : q.signal ≡ v = eqb-true q.signal v (covers_signal v w k q g) in
    let size = width_at (slice_get ss r.signal) in
    let within : k < size = subst (λ n. k < width_at (slice_get ss n)) (sym at_r) lt in
    let x = inside size k r.bits (and_parts (is_of v r && has_word r.word w) (has_bit r.bits k) h).1 within in
    let y = inside size k q.bits (and_parts (is_of v q && has_word q.word w) (has_bit q.bits k) g).1 within in
    let a = bits_or_all size r.bits in
    let b = bits_or_all size q.bits in
    let ax = x.0 in
    let ay = x.1 in
    let bx = y.0 in
    let by = y.1 in
    and_from (r.signal == q.signal) (have_common size a b) (eq-eqb r.signal q.signal (at_r ∙ sym at_q))
    (lt-ltb (max a.low b.low) (min size (min (a.low + a.width) (b.low + b.width))) (omega (arith, within, ax, ay, bx, by)))

-- in a list of elements of which no two clash, those of two parts don't
only_one : {A : Type 0} (eq : A → A → Bool) (P : A → Bool) → ((x y : A) → P x ≡ true → P y ≡ true → eq x y ≡ true) → (xs ys : List A) → IsDistinct eq (xs ++ ys) → list_any P xs ≡ true → list_any P ys ≡ true → ⊥
only_one eq P clash [] ys apart h g = false≢true h
only_one eq P clash (x ∷ xs) ys apart h g =
    elim (cases_Bool (P x)) [
      | inl hit ↦
          let found = any_at P (xs ++ ys) (list_any-append P xs ys ∙ or_right (list_any P xs) (list_any P ys) g) in
          true≢false (sym (clash x found.1 hit found.3) ∙ all_of (λ y. eq x y ≡ false) (xs ++ ys) found.0 found.1 found.2 (IsDistinct-head eq x (xs ++ ys) apart))
      | inr miss ↦ only_one eq P clash xs ys (IsDistinct-tail eq x (xs ++ ys) apart) (sym (ap (λ b. b || list_any P xs) miss) ∙ h) g
    ]

distinct_back : {A : Type 0} (eq : A → A → Bool) (xs ys : List A) → IsDistinct eq (xs ++ ys) → IsDistinct eq ys
distinct_back eq [] ys apart = apart
distinct_back eq (x ∷ xs) ys apart = distinct_back eq xs ys (IsDistinct-tail eq x (xs ++ ys) apart)

any_flat : {A B : Type 0} (P : B → Bool) (f : A → List B) (xs : List A) (i : ℕ) (x : A) → slice_get xs i ≡ Some x → list_any P (f x) ≡ true → list_any P (flat_map f xs) ≡ true
any_flat P f [] i x is h = cc
any_flat P f (z ∷ xs) zero x is h =
    let e : z ≡ x = cc in
    list_any-append P (f z) (flat_map f xs) ∙ or_left (list_any P (f z)) (list_any P (flat_map f xs)) (ap (λ y. list_any P (f y)) e ∙ h)
any_flat P f (z ∷ xs) (suc i) x is h = list_any-append P (f z) (flat_map f xs) ∙ or_right (list_any P (f z)) (list_any P (flat_map f xs)) (any_flat P f xs i x is h)

pub distinct_flat : {A B : Type 0} (eq : B → B → Bool) (P : B → Bool) → ((x y : B) → P x ≡ true → P y ≡ true → eq x y ≡ true) → (f : A → List B) (xs : List A) (i j : ℕ) (x y : A) →
    IsDistinct eq (flat_map f xs) → slice_get xs i ≡ Some x → slice_get xs j ≡ Some y → (i ≡ j → ⊥) → list_any P (f x) ≡ true → list_any P (f y) ≡ true → ⊥
distinct_flat eq P clash f [] i j x y apart at_i at_j ne h g = cc
distinct_flat eq P clash f (z ∷ xs) zero zero x y apart at_i at_j ne h g = ne refl
distinct_flat eq P clash f (z ∷ xs) zero (suc j) x y apart at_i at_j ne h g =
    let e : z ≡ x = cc in
    only_one eq P clash (f z) (flat_map f xs) apart (ap (λ t. list_any P (f t)) e ∙ h) (any_flat P f xs j y at_j g)
distinct_flat eq P clash f (z ∷ xs) (suc i) zero x y apart at_i at_j ne h g =
    let e : z ≡ y = cc in
    only_one eq P clash (f z) (flat_map f xs) apart (ap (λ t. list_any P (f t)) e ∙ g) (any_flat P f xs i x at_i h)
distinct_flat eq P clash f (z ∷ xs) (suc i) (suc j) x y apart at_i at_j ne h g =
    distinct_flat eq P clash f xs i j x y (distinct_back eq (f z) (flat_map f xs) apart) at_i at_j (λ e. ne (ap suc e)) h g

-- ---- how large signals are

repeated_size : (count : ℕ) (word : List Digit) (w n : ℕ) → slice_get (map length (replicate count word)) w ≡ Some n → n ≡ length word
repeated_size zero word w n h = cc
repeated_size (suc count) word zero n h = cc
repeated_size (suc count) word (suc w) n h = repeated_size count word w n h

started_size : (assigns : List Assign) (first : ℕ) (ss : List Signal) (v w n : ℕ) → length_in (slice_get (shape (start_words assigns first ss)) v) w ≡ Some n → n ≡ width_at (slice_get ss v)
started_size assigns first [] v w n h = cc
started_size assigns first (s ∷ ss) zero w n h = repeated_size s.count (start_word assigns first s) w n h ∙ length-start_digits _ s.kind 0 s.width
started_size assigns first (s ∷ ss) (suc v) w n h = started_size assigns (suc first) ss v w n h

-- a digit of a store stands below the size of its signal
pub present : (d : Parts) (store : Store) → shape store ≡ shape (start_store d) → (v w k : ℕ) (x : Digit) → digit_of store v w k ≡ Some x → k < width_at (slice_get d.signals v)
present d store shaped v w k x h = at_word (word_of store v w) refl h
  where
    at_word : (o : Option (List Digit)) → word_of store v w ≡ o → digit_in o k ≡ Some x → k < width_at (slice_get d.signals v)
    at_word None is h = cc
    at_word (Some word) is h =
        let size : length word ≡ width_at (slice_get d.signals v) =
        started_size d.assigns 0 d.signals v w (length word) (ap (λ l. length_in (slice_get l v) w) (sym shaped) ∙ sym (lengths store v w) ∙ ap (option_map length) is) in
        let within : k < length word = slice_get_within word k x h in
        omega (arith, size, within)
