-- Words in flat planes.
use Rattle.std.proofs.Common.{◌≡◌, ℕ, zero, suc, ◌+◌, ◌-◌, ◌<◌, ◌≤◌, Bool, true, false, ◌&&◌, eqb, if◌then◌else◌, Some, List, [], ◌∷◌, ◌++◌, length, take, drop, replicate, get_or, slice_get, slice_index, refl, sym, ap, ap₂, ◌∙◌, arith}
use Rattle.std.proofs.Math.ListN.{get_or-append}
use Rattle.std.proofs.lemmas.List.{length-take, length-drop, get_or-take, get_or-drop, get_or-append-add}
use borrow.Rule.Slice.PartMut.{put_mid, post_of}
use Rattle.std.specs.Prelude.{slice_set}
use Rattle.std.proofs.lemmas.Option.{same_Some, slice_get_read, slice_get-get_or}
use Rattle.vs_design.specs.vs_logic4.specs.declared.digit.Digit.{Digit}
use Rattle.vs_design.specs.vs_logic4.specs.declared.digit.Digit.TheVariants.{X}
use Rattle.vs_design.specs.vs_logic4.specs.Changes.{change}
use Rattle.vs_design.specs.vs_logic4.specs.Planes.{digits_of_planes, value_plane, unknown_plane, ArePlanes}
use Rattle.vs_design.specs.vs_logic4.specs.PlaneLaws.{digits_of_planes-of, value_plane-lt, unknown_plane-lt, same_planes-iff}
use Rattle.vs_design.specs.vs_logic4.specs.Vectors.{same_digits}
use Rattle.vs_design.specs.vs_logic4.specs.Sameness.{same_digits-from_iff}
use Rattle.vs_vcd_writing.specs.Planes.{words_of, AreWords, are_same}

-- ---- lists

pub get_set_other : {A : Type 0} (xs : List A) (i k : ℕ) (x : A) → (i ≡ k → ⊥) → slice_get (slice_set xs i x) k ≡ slice_get xs k
get_set_other [] i k x h = refl
get_set_other (y ∷ ys) zero zero x h = absurd (h refl)
get_set_other (y ∷ ys) zero (suc k) x h = refl
get_set_other (y ∷ ys) (suc i) zero x h = refl
get_set_other (y ∷ ys) (suc i) (suc k) x h = get_set_other ys i k x (λ e. h (ap suc e))

pub read : (xs : List ℕ) (i x : ℕ) → i < length xs → x ≡ get_or xs i x → x ≡ slice_index xs i
read xs i x lt is = same_Some x (slice_index xs i) (sym (slice_get_read xs (length xs) i x refl lt is) ∙ slice_get-get_or xs i 0 lt)

-- ---- parts of lists

pub part_long : {A : Type 0} (xs : List A) (from to : ℕ) → from ≤ to → to ≤ length xs → length (take (to - from) (drop from xs)) ≡ to - from
part_long xs from to order within = omega (arith, length-take (to - from) (drop from xs), length-drop from xs)

part_at : (xs : List ℕ) (from n i k : ℕ) → i < n → from + i ≡ k → slice_index (take n (drop from xs)) i ≡ slice_index xs k
part_at xs from n i k lt at = get_or-take n (drop from xs) i 0 lt ∙ get_or-drop from xs i 0 ∙ ap (slice_index xs) at

-- the flags of a part of two planes stand in its place
pub part_compared : (old new flags out : List ℕ) (from to : ℕ) → from ≤ to → to ≤ length old → length flags ≡ length old → length out ≡ length (take (to - from) (drop from flags))
    → ((k : ℕ) → k < length (take (to - from) (drop from old)) → slice_index out k ≡ change (slice_index (take (to - from) (drop from old)) k) (slice_index (take (to - from) (drop from new)) k))
    → (k : ℕ) → from ≤ k → k < to → slice_index (put_mid from (to - from) flags out) k ≡ change (slice_index old k) (slice_index new k)
part_compared old new flags out from to order within long out_long same k ge lt =
    let i = k - from in
    let at : from + i ≡ k = omega arith in
    let below : i < to - from = omega arith in
    let inside : i < length out = omega (arith, out_long, part_long flags from to order (omega arith)) in
    let front : length (take from flags) ≡ from = omega (arith, length-take from flags) in
    let behind = post_of from (to - from) flags in
    let place : k ≡ length (take from flags) + i = omega (arith, front, at) in
    ap (slice_index (take from flags ++ (out ++ behind))) place ∙ get_or-append-add (take from flags) (out ++ behind) i 0 ∙ get_or-append out behind 0 i inside
    ∙ same i (omega (arith, below, part_long old from to order within))
    ∙ ap₂ change (part_at old from (to - from) i k below at) (part_at new from (to - from) i k below at)

-- ---- words

pub length-words_of : (ws vs us : List ℕ) → AreWords ws vs us → length (words_of ws vs us) ≡ length ws
length-words_of [] vs us h = refl
length-words_of (w ∷ ws) [] us h = absurd h
length-words_of (w ∷ ws) (v ∷ vs) [] h = absurd h
length-words_of (w ∷ ws) (v ∷ vs) (u ∷ us) h = ap suc (length-words_of ws vs us h.1)

-- the planes are equally long
as_long : (ws vs us : List ℕ) → AreWords ws vs us → (length vs ≡ length ws) × (length us ≡ length ws)
as_long [] [] [] h = (refl, refl)
as_long [] [] (u ∷ us) h = absurd h
as_long [] (v ∷ vs) us h = absurd h
as_long (w ∷ ws) [] us h = absurd h
as_long (w ∷ ws) (v ∷ vs) [] h = absurd h
as_long (w ∷ ws) (v ∷ vs) (u ∷ us) h = (ap suc (as_long ws vs us h.1).0, ap suc (as_long ws vs us h.1).1)

-- the word of a number, and its planes
word_is : (ws vs us : List ℕ) (i : ℕ) → AreWords ws vs us → i < length ws
    → (slice_get (words_of ws vs us) i ≡ Some (digits_of_planes (slice_index ws i) (slice_index vs i) (slice_index us i))) × ArePlanes (slice_index ws i) (slice_index vs i) (slice_index us i)
word_is [] vs us i h lt = absurd (omega arith)
word_is (w ∷ ws) [] us i h lt = absurd h
word_is (w ∷ ws) (v ∷ vs) [] i h lt = absurd h
word_is (w ∷ ws) (v ∷ vs) (u ∷ us) zero h lt = (refl, h.0)
word_is (w ∷ ws) (v ∷ vs) (u ∷ us) (suc i) h lt = word_is ws vs us i h.1 (omega arith)

-- a word is among those that planes hold
pub record IsAt (ws vs us : List ℕ) (i : ℕ) (all : List (List Digit)) : Type 0 where
  pub in_widths : i < length ws
  pub in_values : i < length vs
  pub in_unknowns : i < length us
  pub is : slice_get all i ≡ Some (digits_of_planes (slice_index ws i) (slice_index vs i) (slice_index us i))
  pub is_word : ArePlanes (slice_index ws i) (slice_index vs i) (slice_index us i)

pub word_at : (ws vs us : List ℕ) (i : ℕ) (all : List (List Digit)) → AreWords ws vs us → words_of ws vs us ≡ all → i < length all → IsAt ws vs us i all
word_at ws vs us i all h view lt =
    let within : i < length ws = omega (arith, lt, ap length view, length-words_of ws vs us h) in
    let long = as_long ws vs us h in
    let found = word_is ws vs us i h within in record {
      in_widths = within;
      in_values = omega (arith, within, long.0);
      in_unknowns = omega (arith, within, long.1);
      is = sym (ap (λ l. slice_get l i) view) ∙ found.0;
      is_word = found.1;
    }

-- the word of the numbers that are read
pub found_is : (ws vs us : List ℕ) (i w v u : ℕ) (all : List (List Digit)) → IsAt ws vs us i all → w ≡ get_or ws i w → v ≡ get_or vs i v → u ≡ get_or us i u
    → slice_get all i ≡ Some (digits_of_planes w v u)
found_is ws vs us i w v u all at e f g =
    let a = read ws i w at.in_widths e in
    let b = read vs i v at.in_values f in
    let c = read us i u at.in_unknowns g in
    at.is ∙ ap (λ x. Some (digits_of_planes x (slice_index vs i) (slice_index us i))) (sym a) ∙ ap (λ x. Some (digits_of_planes w x (slice_index us i))) (sym b)
    ∙ ap (λ x. Some (digits_of_planes w v x)) (sym c)

-- how long the planes are
pub length_by : (ws vs us : List ℕ) (all : List (List Digit)) → AreWords ws vs us → words_of ws vs us ≡ all → (length ws ≡ length all) × (length vs ≡ length all) × (length us ≡ length all)
length_by ws vs us all h view =
    let whole : length ws ≡ length all = sym (length-words_of ws vs us h) ∙ ap length view in
    let long = as_long ws vs us h in (whole, long.0 ∙ whole, long.1 ∙ whole)

-- the planes of a word
planes_of : (word : List Digit) → 0 < length word → length word ≤ 64 → ArePlanes (length word) (value_plane word) (unknown_plane word)
planes_of word some most = record { some = some; most = most; value_below = value_plane-lt word; unknown_below = unknown_plane-lt word }

-- a word is put in the place of another
word_set : (ws vs us : List ℕ) (i : ℕ) (word : List Digit) → AreWords ws vs us → i < length ws
    → words_of (slice_set ws i (length word)) (slice_set vs i (value_plane word)) (slice_set us i (unknown_plane word)) ≡ slice_set (words_of ws vs us) i word
word_set [] vs us i word h lt = absurd (omega arith)
word_set (w ∷ ws) [] us i word h lt = absurd h
word_set (w ∷ ws) (v ∷ vs) [] i word h lt = absurd h
word_set (w ∷ ws) (v ∷ vs) (u ∷ us) zero word h lt = ap (λ d. d ∷ words_of ws vs us) (digits_of_planes-of word)
word_set (w ∷ ws) (v ∷ vs) (u ∷ us) (suc i) word h lt = ap (λ l. digits_of_planes w v u ∷ l) (word_set ws vs us i word h.1 (omega arith))

are_words_set : (ws vs us : List ℕ) (i : ℕ) (word : List Digit) → AreWords ws vs us → i < length ws → 0 < length word → length word ≤ 64
    → AreWords (slice_set ws i (length word)) (slice_set vs i (value_plane word)) (slice_set us i (unknown_plane word))
are_words_set [] vs us i word h lt some most = absurd (omega arith)
are_words_set (w ∷ ws) [] us i word h lt some most = absurd h
are_words_set (w ∷ ws) (v ∷ vs) [] i word h lt some most = absurd h
are_words_set (w ∷ ws) (v ∷ vs) (u ∷ us) zero word h lt some most = (planes_of word some most, h.1)
are_words_set (w ∷ ws) (v ∷ vs) (u ∷ us) (suc i) word h lt some most = (h.0, are_words_set ws vs us i word h.1 (omega arith) some most)

-- the same by the numbers that are put in
pub word_put : (ws vs us : List ℕ) (i w v u : ℕ) (word : List Digit) (all : List (List Digit)) → AreWords ws vs us → words_of ws vs us ≡ all → i < length all
    → w ≡ length word → v ≡ value_plane word → u ≡ unknown_plane word → 0 < w → w ≤ 64
    → AreWords (slice_set ws i w) (slice_set vs i v) (slice_set us i u) × (words_of (slice_set ws i w) (slice_set vs i v) (slice_set us i u) ≡ slice_set all i word)
word_put ws vs us i w v u word all h view lt e f g some most =
    let within : i < length ws = (word_at ws vs us i all h view lt).in_widths in
    let kept : AreWords (slice_set ws i w) (slice_set vs i v) (slice_set us i u) = rw (e, f, g) (are_words_set ws vs us i word h within (omega (arith, some, e)) (omega (arith, most, e))) in
    let is : words_of (slice_set ws i w) (slice_set vs i v) (slice_set us i u) ≡ slice_set (words_of ws vs us) i word = rw (e, f, g) (word_set ws vs us i word h within) in
    (kept, is ∙ ap (λ l. slice_set l i word) view)

-- words of one x
words_unknown : (n : ℕ) → words_of (replicate n 1) (replicate n 1) (replicate n 1) ≡ replicate n (X ∷ [])
words_unknown zero = refl
words_unknown (suc n) = ap (λ l. (X ∷ []) ∷ l) (words_unknown n)

are_words_unknown : (n : ℕ) → AreWords (replicate n 1) (replicate n 1) (replicate n 1)
are_words_unknown zero = tt
are_words_unknown (suc n) = (planes_of (X ∷ []) (omega arith) (omega arith), are_words_unknown n)

pub unknown_words : (n : ℕ) (ws vs us : List ℕ) → ws ≡ replicate n 1 → vs ≡ replicate n 1 → us ≡ replicate n 1 → AreWords ws vs us × (words_of ws vs us ≡ replicate n (X ∷ []))
unknown_words n ws vs us e f g =
    let are : AreWords ws vs us = rw (e, f, g) (are_words_unknown n) in
    let is : words_of ws vs us ≡ replicate n (X ∷ []) = rw (e, f, g) (words_unknown n) in
    (are, is)

-- ---- flags

flag_is : (a b : ℕ) → eqb (change a b) 0 ≡ eqb a b
flag_is a b = at (eqb a b)
  where
    at : (c : Bool) → eqb (if c then 0 else 1) 0 ≡ c
    at true = refl
    at false = refl

-- a word is the same where no flag of its planes is set
flags_same : (w v u w' v' u' a b c : ℕ) → ArePlanes w v u → ArePlanes w' v' u' → a ≡ change w w' → b ≡ change v v' → c ≡ change u u'
    → are_same a b c ≡ same_digits (digits_of_planes w v u) (digits_of_planes w' v' u')
flags_same w v u w' v' u' a b c p q x y z =
    let is : are_same a b c ≡ ((eqb w w' && eqb v v') && eqb u u') = rw (x, y, z, flag_is w w', flag_is v v', flag_is u u') refl in
    same_digits-from_iff (are_same a b c) (digits_of_planes w v u) (digits_of_planes w' v' u') (same_planes-iff w v u w' v' u' (are_same a b c) p q is)

-- the flags of the words of a number tell whether they are the same
pub words_same : (ws vs us ws' vs' us' : List ℕ) (k a b c : ℕ) (x y : List Digit) → AreWords ws vs us → AreWords ws' vs' us' → k < length ws → k < length ws'
    → a ≡ change (slice_index ws k) (slice_index ws' k) → b ≡ change (slice_index vs k) (slice_index vs' k) → c ≡ change (slice_index us k) (slice_index us' k)
    → slice_get (words_of ws vs us) k ≡ Some x → slice_get (words_of ws' vs' us') k ≡ Some y → are_same a b c ≡ same_digits x y
words_same ws vs us ws' vs' us' k a b c x y p q lt lt' e f g old new =
    let one = word_is ws vs us k p lt in
    let two = word_is ws' vs' us' k q lt' in
    let first = same_Some _ x (sym one.0 ∙ old) in
    let second = same_Some _ y (sym two.0 ∙ new) in
    flags_same _ _ _ _ _ _ a b c one.1 two.1 e f g ∙ ap (λ l. same_digits l (digits_of_planes (slice_index ws' k) (slice_index vs' k) (slice_index us' k))) first ∙ ap (same_digits x) second
