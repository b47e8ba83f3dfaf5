-- Driven bits in a table.
use Rattle.std.proofs.Common.{◌≡◌, ℕ, zero, suc, ◌+◌, ◌-◌, ◌*◌, ◌<◌, ◌≤◌, Bool, true, false, ◌||◌, ◌&&◌, ◌==◌, nat_le, nat_lt, max, min, List, [], ◌∷◌, ◌++◌, Some, None, ◌⊎◌, inl, inr, length, take, slice_get, get_or, replicate, drop, refl, ap, sym, subst, ◌∙◌, append_assoc, arith, true≢false, ⊎_elim, eq-eqb}
use Rattle.std.specs.Prelude.{slice_set}
use Rattle.std.specs.List.{list_any, IsDistinct}
use Rattle.std.proofs.lemmas.Bool.{and_parts, and_from, or_left, or_right, false_from_ne_true, cases_lt, lt-ltb, ltb-true, le-leb, leb-true, eqb-true}
use Rattle.std.proofs.lemmas.Bool.Decides.{eqb_tells}
use Rattle.std.proofs.lemmas.List.{append-nil, take_more, take_all, take-append-drop, get_or_default, length-set, length-append, length-replicate, get_or-replicate, get_or-set_same, get_or-set_other}
use Rattle.std.proofs.lemmas.List.Folds.{list_any-append}
use Rattle.std.proofs.lemmas.Map.Keys.{apart_from_distinct, IsDistinct-from_apart}
use Rattle.std.proofs.lemmas.Option.{none-some, same_Some, slice_get-get_or}
use Rattle.std.proofs.Math.Bool.{or-false}
use Rattle.vs_design.specs.declared.range.BitRange.{BitRange}
use Rattle.vs_design.specs.declared.signal.Signal.{Signal}
use Rattle.vs_design.specs.WellFormed.{width_at, bits_or_all, have_common, share_a_bit}
use Rattle.vs_elaborate.specs.Marks.{IsMarked, drives_place, Marks, AreWithin, IsReach, SharesBit, MarksOne, MarksAll}
use Rattle.std.proofs.lemmas.Map.Keys.{any_passes_from_place as passes}
use Rattle.vs_design.specs.vs_logic4.proofs.Basics.{at_end as slice_last, at_front as slice_front, element_of, take_push}

-- ---- places

pub mark_none : (from : ℕ) (t : List Bool) → IsMarked from from t t false
mark_none from t = record {
  size = refl;
  inside = λ i h k. absurd (omega arith);
  outside = λ i h. refl;
  fresh = λ e i h k. absurd (omega arith);
  place = λ e. absurd (true≢false (sym e));
}

-- one place more
pub mark_more : (from p : ℕ) (old cur new : List Bool) (again b : Bool) → from ≤ p → p < length cur → new ≡ slice_set cur p true → b ≡ (again || get_or cur p false) → IsMarked from p old cur again → IsMarked from (p + 1) old new b
mark_more from p old cur new again b f l n e m = record {
  size = ap length n ∙ length-set cur p true ∙ m.size;
  inside = λ i h k. ap (λ (z : List Bool). get_or z i false) n ∙ ⊎_elim
      (λ same. ap (λ j. get_or (slice_set cur j true) i false) same.1 ∙ get_or-set_same cur i true false (omega (arith, l, same.1)))
      (λ other. get_or-set_other cur p i true false (λ q. other.1 (sym q)) ∙ m.inside i h (omega (arith, k, other.1)))
      (eqb_tells p i);
  outside = λ i h.
      (let apart : i ≡ p → ⊥ = λ q. ⊎_elim (λ below. omega (arith, below, q, f)) (λ above. omega (arith, above, q)) h in
      let still : (i < from) ⊎ (p ≤ i) = ⊎_elim (λ below. inl below) (λ above. inr (omega (arith, above))) h in
      ap (λ (z : List Bool). get_or z i false) n ∙ get_or-set_other cur p i true false apart ∙ m.outside i still);
  fresh = λ q i h k.
      (let none : (again || get_or cur p false) ≡ false = sym e ∙ q in
      ⊎_elim
      (λ same. sym (m.outside i (inr (omega (arith, same.1)))) ∙ ap (λ j. get_or cur j false) (sym same.1) ∙ right_false again _ none)
      (λ other. m.fresh (left_false again _ none) i h (omega (arith, k, other.1)))
      (eqb_tells p i));
  place = λ q. by again refl (sym e ∙ q);
}
  where
    left_false : (a b : Bool) → (a || b) ≡ false → a ≡ false
    left_false true b h = h
    left_false false b h = refl

    right_false : (a b : Bool) → (a || b) ≡ false → b ≡ false
    right_false true b h = absurd (true≢false h)
    right_false false b h = h

    by : (a : Bool) → again ≡ a → (a || get_or cur p false) ≡ true → (i : ℕ) × (from ≤ i) × (i < p + 1) × (get_or old i false ≡ true)
    by true k h = let r = m.place k in (r.0, r.1, omega (arith, r.2), r.3)
    by false k h = let at : p ≤ p = omega arith in (p, f, omega arith, sym (m.outside p (inr at)) ∙ h)

-- ---- bits

-- a bit that a range drives
record Drives (ss : List Signal) (signal bit : ℕ) (r : BitRange) : Type 0 where
  of : r.signal ≡ signal
  size : bit < width_at (slice_get ss signal)
  low : (bits_or_all (width_at (slice_get ss signal)) r.bits).low ≤ bit
  high : bit < (bits_or_all (width_at (slice_get ss signal)) r.bits).low + (bits_or_all (width_at (slice_get ss signal)) r.bits).width

drives : (ss : List Signal) (signal bit : ℕ) (r : BitRange) → drives_place ss signal bit r ≡ true → Drives ss signal bit r
drives ss signal bit r h =
    let b = bits_or_all (width_at (slice_get ss signal)) r.bits in
    let p = and_parts ((r.signal == signal) && nat_lt bit (width_at (slice_get ss signal)) && nat_le b.low bit) (nat_lt bit (b.low + b.width)) h in
    let q = and_parts ((r.signal == signal) && nat_lt bit (width_at (slice_get ss signal))) (nat_le b.low bit) p.0 in
    let s = and_parts (r.signal == signal) (nat_lt bit (width_at (slice_get ss signal))) q.0 in
    record { of = eqb-true r.signal signal s.0; size = ltb-true bit _ s.1; low = leb-true b.low bit q.1; high = ltb-true bit _ p.1 }

driven : (ss : List Signal) (signal bit : ℕ) (r : BitRange) → Drives ss signal bit r → drives_place ss signal bit r ≡ true
driven ss signal bit r d =
    let b = bits_or_all (width_at (slice_get ss signal)) r.bits in
    and_from _ _ (and_from _ _ (and_from _ _ (eq-eqb r.signal signal d.of) (lt-ltb bit _ d.size)) (le-leb b.low bit d.low)) (lt-ltb bit _ d.high)

-- ranges that share a bit drive one
shared_bit : (ss : List Signal) (q r : BitRange) → share_a_bit ss q r ≡ true → (bit : ℕ) × Drives ss r.signal bit q × Drives ss r.signal bit r
shared_bit ss q r h =
    let size = width_at (slice_get ss q.signal) in
    let p = and_parts (q.signal == r.signal) (have_common size (bits_or_all size q.bits) (bits_or_all size r.bits)) h in
    let same : q.signal ≡ r.signal = eqb-true q.signal r.signal p.0 in
    let a = bits_or_all size q.bits in
    let b = bits_or_all size r.bits in
    let below : max a.low b.low < min size (min (a.low + a.width) (b.low + b.width)) = ltb-true _ _ p.1 in
    let P : ℕ → Type 0 = λ s. (bit : ℕ) × Drives ss s bit q × Drives ss s bit r in
    subst P same (
      max a.low b.low,
      record { of = refl; size = omega (arith, below); low = omega arith; high = omega (arith, below) },
      record { of = sym same; size = omega (arith, below); low = omega arith; high = omega (arith, below) },
    )

bit_shared : (ss : List Signal) (q r : BitRange) (bit : ℕ) → Drives ss r.signal bit q → Drives ss r.signal bit r → share_a_bit ss q r ≡ true
bit_shared ss q r bit d e =
    let size = width_at (slice_get ss q.signal) in
    let a = bits_or_all size q.bits in
    let b = bits_or_all size r.bits in
    let P : ℕ → Type 0 = λ s. (bit < width_at (slice_get ss s)) × ((bits_or_all (width_at (slice_get ss s)) q.bits).low ≤ bit) × (bit < (bits_or_all (width_at (slice_get ss s)) q.bits).low + (bits_or_all (width_at (slice_get ss s)) q.bits).width) ×
    ((bits_or_all (width_at (slice_get ss s)) r.bits).low ≤ bit) × (bit < (bits_or_all (width_at (slice_get ss s)) r.bits).low + (bits_or_all (width_at (slice_get ss s)) r.bits).width) in
    let x : P q.signal = subst P (sym d.of) (d.size, d.low, d.high, e.low, e.high) in
    let below : max a.low b.low < min size (min (a.low + a.width) (b.low + b.width)) = omega (arith, x.0, x.1, x.2, x.3, x.4) in
    and_from _ _ (eq-eqb q.signal r.signal d.of) (lt-ltb _ _ below)

-- ---- lists

none_at : {A : Type 0} (p : A → Bool) (xs : List A) (k : ℕ) (d : A) → list_any p xs ≡ false → k < length xs → p (get_or xs k d) ≡ false
none_at p [] k d h l = absurd (omega arith)
none_at p (x ∷ xs) zero d h l = first (p x) _ h
  where
    first : (a b : Bool) → (a || b) ≡ false → a ≡ false
    first true b h = h
    first false b h = refl
none_at p (x ∷ xs) (suc k) d h l = none_at p xs k d (rest (p x) _ h) (omega arith)
  where
    rest : (a b : Bool) → (a || b) ≡ false → b ≡ false
    rest true b h = absurd (true≢false h)
    rest false b h = h

pub get_front : {A : Type 0} (xs ys : List A) (k : ℕ) (d : A) → k < length xs → get_or (xs ++ ys) k d ≡ get_or xs k d
get_front [] ys k d h = absurd (omega arith)
get_front (x ∷ xs) ys zero d h = refl
get_front (x ∷ xs) ys (suc k) d h = get_front xs ys k d (omega arith)

get_last : {A : Type 0} (xs : List A) (y : A) (d : A) → get_or (xs ++ y ∷ []) (length xs) d ≡ y
get_last [] y d = refl
get_last (x ∷ xs) y d = get_last xs y d

-- one more element that none before is related to
distinct_push : {A : Type 0} (e : A → A → Bool) (xs : List A) (y : A) → IsDistinct e xs → list_any (λ x. e x y) xs ≡ false → IsDistinct e (xs ++ y ∷ [])
distinct_push e xs y u h = IsDistinct-from_apart e (xs ++ y ∷ []) (λ i j d k l.
    (let n = length-append xs (y ∷ []) in
    ⊎_elim
    (λ same.
    (let before : i < length xs = omega (arith, k, same.1) in
    ap (λ z. e (get_or (xs ++ y ∷ []) i d) (get_or (xs ++ y ∷ []) z d)) same.1 ∙ ap (e (get_or (xs ++ y ∷ []) i d)) (get_last xs y d) ∙ ap (λ z. e z y) (get_front xs (y ∷ []) i d before) ∙ none_at (λ x. e x y) xs i d h before))
    (λ other.
    (let inside : j < length xs = omega (arith, l, n, other.1) in
    let before : i < length xs = omega (arith, k, inside) in
    ap (λ z. e z (get_or (xs ++ y ∷ []) j d)) (get_front xs (y ∷ []) i d before) ∙ ap (e (get_or xs i d)) (get_front xs (y ∷ []) j d inside) ∙ apart_from_distinct e xs i j d u k inside))
    (eqb_tells j (length xs))))

-- ---- ranges

numbers_none : (ss : List Signal) → IsDistinct (share_a_bit ss) []
unfolding IsDistinct
numbers_none ss = tt

pub marks_none : (ss : List Signal) (table : List Bool) → table ≡ replicate (64 * length ss) false → Marks ss [] table
marks_none ss table h = record {
  size = ap length h ∙ length-replicate (64 * length ss) false;
  each = λ signal bit l k. (let inside : 64 * signal + bit < 64 * length ss = omega (arith, l, k) in ap (λ (z : List Bool). get_or z (64 * signal + bit) false) h ∙ get_or-replicate (64 * length ss) (64 * signal + bit) false false inside);
  distinct = numbers_none ss;
}

module _ (ss : List Signal) (r : BitRange) (old new : List Bool) (from to : ℕ) (within : r.signal < length ss) (small : width_at (slice_get ss r.signal) ≤ 64) (reach : IsReach (width_at (slice_get ss r.signal)) r.bits (from, to)) where
  at : ℕ → ℕ
  at bit = 64 * r.signal + bit

  -- the bits that a range drives are those that it reaches
  reached : (bit : ℕ) → Drives ss r.signal bit r → (from ≤ bit) × (bit < to)
  reached bit d = (omega (arith, reach.0, d.low, d.size), omega (arith, reach.1, d.high, d.size))

  reaches : (bit : ℕ) → from ≤ bit → bit < to → Drives ss r.signal bit r
  reaches bit h k = record { of = refl; size = omega (arith, reach.1, k); low = omega (arith, reach.0, reach.1, h, k); high = omega (arith, reach.1, k) }

  -- the place of a bit that the range doesn't drive is left alone
  apart_from : (signal bit : ℕ) → bit < 64 → (Drives ss signal bit r → ⊥) → (64 * signal + bit < 64 * r.signal + from) ⊎ (64 * r.signal + to ≤ 64 * signal + bit)
  apart_from signal bit b not = ⊎_elim
      (λ below. inl (omega (arith, below, b)))
      (λ above. ⊎_elim
      (λ same. inside (sym same.1))
      (λ other. inr (omega (arith, above, other.1, small, reach.1)))
      (eqb_tells r.signal signal))
      (cases_lt signal r.signal)
    where
      inside : signal ≡ r.signal → (64 * signal + bit < 64 * r.signal + from) ⊎ (64 * r.signal + to ≤ 64 * signal + bit)
      inside same = ⊎_elim
          (λ low. inl (omega (arith, low, same)))
          (λ high. ⊎_elim
          (λ inner. absurd (not (subst (λ s. Drives ss s bit r) (sym same) (reaches bit high inner))))
          (λ outer. inr (omega (arith, outer, same)))
          (cases_lt bit to))
          (cases_lt bit from)

  -- what the table says behind the range
  each_more : (again : Bool) → IsMarked (64 * r.signal + from) (64 * r.signal + to) old new again → (done : List BitRange) → Marks ss done old → (signal bit : ℕ) → signal < length ss → bit < 64 → get_or new (64 * signal + bit) false ≡ list_any (drives_place ss signal bit) (done ++ r ∷ [])
  each_more again m done k signal bit l b = by (drives_place ss signal bit r) refl
    where
      by : (t : Bool) → drives_place ss signal bit r ≡ t → get_or new (64 * signal + bit) false ≡ list_any (drives_place ss signal bit) (done ++ r ∷ [])
      by true e =
          let d = drives ss signal bit r e in
          let in_reach = reached bit (subst (λ s. Drives ss s bit r) (sym d.of) d) in
          m.inside (64 * signal + bit) (omega (arith, d.of, in_reach.0)) (omega (arith, d.of, in_reach.1)) ∙ sym (list_any-append (drives_place ss signal bit) done (r ∷ []) ∙ or_right (list_any (drives_place ss signal bit) done) _ (or_left (drives_place ss signal bit r) false e))
      by false e =
          m.outside (64 * signal + bit) (apart_from signal bit b (λ d. true≢false (sym (driven ss signal bit r d) ∙ e))) ∙ k.each signal bit l b
          ∙ sym (list_any-append (drives_place ss signal bit) done (r ∷ []) ∙ ap (λ t. list_any (drives_place ss signal bit) done || (t || false)) e ∙ or-false (list_any (drives_place ss signal bit) done))

  -- no bit was marked
  pub range_marked : IsMarked (64 * r.signal + from) (64 * r.signal + to) old new false → (done : List BitRange) → Marks ss done old → Marks ss (done ++ r ∷ []) new
  range_marked m done k = record {
    size = m.size ∙ k.size;
    each = each_more false m done k;
    distinct = distinct_push (share_a_bit ss) done r k.distinct (false_from_ne_true (list_any (λ q. share_a_bit ss q r) done) apart);
  }
    where
      apart : list_any (λ q. share_a_bit ss q r) done ≡ true → ⊥
      apart e =
          let x = element_of (λ q. share_a_bit ss q r) done e in
          let bit = shared_bit ss x.1 r x.3 in
          let in_reach = reached bit.0 bit.2 in
          let below : bit.0 < 64 = omega (arith, bit.2.size, small) in
          let free = m.fresh refl (64 * r.signal + bit.0) (omega (arith, in_reach.0)) (omega (arith, in_reach.1)) in
          true≢false (sym (passes (drives_place ss r.signal bit.0) done x.0 x.1 x.2 (driven ss r.signal bit.0 x.1 bit.1)) ∙ sym (k.each r.signal bit.0 within below) ∙ free)

  -- one was
  pub range_shared : IsMarked (64 * r.signal + from) (64 * r.signal + to) old new true → (done : List BitRange) → Marks ss done old → SharesBit ss (done ++ r ∷ []) r.signal
  range_shared m done k =
      let p = m.place refl in
      let bit = p.0 - 64 * r.signal in
      let is : 64 * r.signal + bit ≡ p.0 = omega (arith, p.1) in
      let low : from ≤ bit = omega (arith, p.1) in
      let high : bit < to = omega (arith, p.1, p.2) in
      let below : bit < 64 = omega (arith, high, reach.1, small) in
      let marked : list_any (drives_place ss r.signal bit) done ≡ true = sym (k.each r.signal bit within below) ∙ ap (λ i. get_or old i false) is ∙ p.3 in
      let x = element_of (drives_place ss r.signal bit) done marked in
      let d = drives ss r.signal bit x.1 x.3 in
      let front = slice_front done (r ∷ []) x.0 x.1 x.2 in
      record {
        first = x.0;
        second = length done;
        before = front.0;
        one = x.1;
        other = r;
        one_stands = front.1;
        other_stands = slice_last done r;
        shared = bit_shared ss x.1 r bit d (reaches bit low high);
        signal = d.of;
      }

-- the bits of a range, by what was computed of them
pub range_marks : (ss : List Signal) (r : BitRange) (d : Signal) (old new : List Bool) (again : Bool) (from to : ℕ) → r.signal < length ss → IsReach (get_or ss r.signal d).width r.bits (from, to) → IsMarked (64 * r.signal + from) (64 * r.signal + to) old new again → MarksOne ss r old new again
range_marks ss r d old new again from to within reach m = by again m
  where
    found : slice_get ss r.signal ≡ Some (get_or ss r.signal d)
    found = slice_get-get_or ss r.signal d within

    small : width_at (slice_get ss r.signal) ≤ 64
    small = subst (λ o. width_at o ≤ 64) (sym found) (get_or ss r.signal d).sized.1

    reaching : IsReach (width_at (slice_get ss r.signal)) r.bits (from, to)
    reaching = subst (λ o. IsReach (width_at o) r.bits (from, to)) (sym found) reach

    by : (t : Bool) → IsMarked (64 * r.signal + from) (64 * r.signal + to) old new t → MarksOne ss r old new t
    by true k = range_shared ss r old new from to within small reaching k
    by false k = range_marked ss r old new from to within small reaching k

-- ranges that were marked, one after another
pub ranges_none : (ss : List Signal) (old : List Bool) → MarksAll ss [] old old None
ranges_none ss old done m = subst (λ z. Marks ss z old) (sym (append-nil done)) m

pub ranges_more : (ss : List Signal) (rs : List BitRange) (i : ℕ) (d : BitRange) (old cur new : List Bool) → i < length rs → MarksAll ss (take i rs) old cur None → MarksOne ss (get_or rs i d) cur new false → MarksAll ss (take (i + 1) rs) old new None
ranges_more ss rs i d old cur new h all one done m =
    let r = get_or rs i d in
    let k : r ≡ get_or rs i r = get_or_default rs i d r h in
    subst (λ z. Marks ss z new) (append_assoc done (take i rs) (r ∷ []) ∙ ap (λ z. done ++ z) (sym (take_push rs i r h k))) (one (done ++ take i rs) (all done m))

pub shares_more : (ss : List Signal) (xs ys : List BitRange) (n : ℕ) → SharesBit ss xs n → SharesBit ss (xs ++ ys) n
shares_more ss xs ys n h = record {
  first = h.first;
  second = h.second;
  before = h.before;
  one = h.one;
  other = h.other;
  one_stands = (slice_front xs ys h.first h.one h.one_stands).1;
  other_stands = (slice_front xs ys h.second h.other h.other_stands).1;
  shared = h.shared;
  signal = h.signal;
}

pub ranges_shared : (ss : List Signal) (rs : List BitRange) (i : ℕ) (d : BitRange) (old cur new : List Bool) → i < length rs → AreWithin ss rs → MarksAll ss (take i rs) old cur None → MarksOne ss (get_or rs i d) cur new true → MarksAll ss rs old new (Some (get_or rs i d).signal)
ranges_shared ss rs i d old cur new h within all one = (
  within i d h,
  λ done m.
      (let r = get_or rs i d in
      let k : r ≡ get_or rs i r = get_or_default rs i d r h in
      let rest = drop (i + 1) rs in
      let whole : ((done ++ take i rs) ++ r ∷ []) ++ rest ≡ done ++ rs =
      ap (λ z. z ++ rest) (append_assoc done (take i rs) (r ∷ []) ∙ ap (λ z. done ++ z) (sym (take_push rs i r h k))) ∙ append_assoc done (take (i + 1) rs) rest ∙ ap (λ z. done ++ z) (take-append-drop (i + 1) rs) in
      subst (λ z. SharesBit ss z r.signal) whole (shares_more ss ((done ++ take i rs) ++ r ∷ []) rest r.signal (one (done ++ take i rs) (all done m)))),
)

pub ranges_all : (ss : List Signal) (rs : List BitRange) (i : ℕ) (old new : List Bool) → length rs ≤ i → MarksAll ss (take i rs) old new None → MarksAll ss rs old new None
ranges_all ss rs i old new h all = subst (λ z. MarksAll ss z old new None) (take_all i rs h) all
