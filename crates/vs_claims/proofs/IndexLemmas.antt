-- Names in a list that is searched by halves.
use Rattle.std.proofs.Common.{◌≡◌, ℕ, zero, suc, ◌+◌, ◌-◌, ◌<◌, ◌≤◌, ◌⊎◌, inl, inr, Bool, true, false, not, Some, None, List, [], ◌∷◌, ◌++◌, length, take, get_or, option_map, refl, sym, ◌∙◌, ap, subst, arith, cond, if◌then◌else◌}
use Rattle.std.specs.Str.{bytes_eq}
use Rattle.std.specs.Borrow.{Bor}
use Rattle.std.specs.Cmp.Lexicographic.{slice_cmp}
use Rattle.std.specs.List.{All, Contains, sum_by}
use Rattle.std.specs.declared.cmp.Ordering.{Ordering}
use Rattle.std.specs.Ordering.{nat_cmp, ordering_then, is_lt, is_le}
use Rattle.std.proofs.lemmas.Cmp.{nat_list_cmp_total, tied_itself}
use Rattle.std.proofs.lemmas.List.{get_or-map, get_or_default, length-map}
use Rattle.std.proofs.lemmas.List.Elements.{All-cons, All-nil}
use Rattle.std.proofs.lemmas.List.Sorted.{All-permutation, Contains-permutation, sum_by-IsPermutation}
use Rattle.std.proofs.lemmas.List.Sums.{sum_by-cons}
use Rattle.vs_rules.specs.Claims.{Name, times_in}
use Rattle.vs_claims.specs.Places.{place_in, texts}
use Rattle.vs_claims.specs.passes.Placed.{Placed, AreInOrder, AreBelow, AreUpTo, placed_cmp, placed_from}
use Rattle.vs_claims.proofs.OrderLemmas.{lt, later, later_name, same_no, both, same_between, above_no, below_no, up_to_is}
use Rattle.vs_claims.proofs.PlaceLemmas.{same_name}

-- none of the first names is this one
abbrev pub NoneYet : List Name → Name → ℕ → Type 0
NoneYet ns name i = (k : ℕ) → k < i → bytes_eq (get_or ns k []) name ≡ false

rest_of : (n : Name) (ns : List Name) (name : Name) (i : ℕ) → NoneYet (n ∷ ns) name (suc i) → NoneYet ns name i
rest_of n ns name i h k l = h (suc k) (omega (arith, l))

found : (ns : List Name) (name : Name) (i : ℕ) → NoneYet ns name i → i < length ns → bytes_eq (get_or ns i []) name ≡ true → place_in ns name ≡ Some i
found [] name i before a here = absurd (omega (arith, a))
found (n ∷ ns) name zero before a here = ap (λ (b : Bool). if b then Some 0 else option_map suc (place_in ns name)) here
found (n ∷ ns) name (suc i) before a here =
    ap (λ (b : Bool). if b then Some 0 else option_map suc (place_in ns name)) (before 0 (omega arith))
    ∙ ap (option_map suc) (found ns name i (rest_of n ns name i before) (omega (arith, a)) here)

missing : (ns : List Name) (name : Name) (i : ℕ) → NoneYet ns name i → length ns ≤ i → place_in ns name ≡ None
missing [] name i before a = refl
missing (n ∷ ns) name zero before a = absurd (omega (arith, a))
missing (n ∷ ns) name (suc i) before a =
    ap (λ (b : Bool). if b then Some 0 else option_map suc (place_in ns name)) (before 0 (omega arith))
    ∙ ap (option_map suc) (missing ns name i (rest_of n ns name i before) (omega (arith, a)))

-- of names as they are kept
text_at : (xs : List (Bor Name)) (i : ℕ) (d : Bor Name) → i < length xs → get_or (texts xs) i [] ≡ (get_or xs i d).now
text_at xs i d h = get_or-map (λ (n : Bor Name). n.now) xs i d [] h

-- one of a list that has some
some_of : {X : Type 0} (xs : List X) → 0 < length xs → X
some_of [] h = absurd (omega (arith, h))
some_of (x ∷ xs) h = x

-- ---- names with their places

pub placed_in : (place : ℕ) (ns : List (Bor Name)) (i : ℕ) (d : Bor Name) → i < length ns → Contains (placed_from place ns) (get_or ns i d, place + i)
placed_in place [] i d l = absurd (omega (arith, l))
placed_in place (n ∷ ns) zero d l = (0, omega arith, ap (λ (k : ℕ). (n, k)) here)
  where
    here : place ≡ place + 0
    here = omega arith
placed_in place (n ∷ ns) (suc i) d l =
    let more = placed_in (suc place) ns i d (omega (arith, l)) in
    let there : suc place + i ≡ place + suc i = omega arith in
    subst (λ (k : ℕ). Contains ((n, place) ∷ placed_from (suc place) ns) (get_or ns i d, k)) there
    (suc more.0, omega (arith, more.1), more.2)

-- with one more
pub placed_more : (place : ℕ) (ns : List (Bor Name)) (i : ℕ) (d : Bor Name) → i < length ns →
    placed_from place (take (i + 1) ns) ≡ placed_from place (take i ns) ++ (get_or ns i d, place + i) ∷ []
placed_more place [] i d l = absurd (omega (arith, l))
placed_more place (n ∷ ns) zero d l =
    let here : place ≡ place + 0 = omega arith in
    let one : 0 + 1 ≡ suc 0 = refl in
    ap (λ (k : ℕ). placed_from place (take k (n ∷ ns))) one ∙ ap (λ (k : ℕ). (n, k) ∷ []) here
placed_more place (n ∷ ns) (suc i) d l =
    let more = placed_more (suc place) ns i d (omega (arith, l)) in
    let there : suc place + i ≡ place + suc i = omega arith in
    let next : suc i + 1 ≡ suc (i + 1) = omega arith in
    ap (λ (k : ℕ). placed_from place (take k (n ∷ ns))) next
    ∙ ap (λ (ms : List Placed). (n, place) ∷ ms) (more ∙ ap (λ (k : ℕ). placed_from (suc place) (take i ns) ++ (get_or ns i d, k) ∷ []) there)

-- a name with its place in a list
pub record IsAt (place : ℕ) (ns : List (Bor Name)) (m : Placed) : Type 0 where
  pub least : place ≤ m.1
  pub most : m.1 < place + length ns
  pub is : get_or ns (m.1 - place) m.0 ≡ m.0

one_on : (place : ℕ) (n : Bor Name) (ns : List (Bor Name)) (m : Placed) → IsAt (suc place) ns m → IsAt place (n ∷ ns) m
one_on place n ns m h = record {
  least = omega (arith, h.least);
  most = omega (arith, h.most);
  is =
      let next : m.1 - place ≡ suc (m.1 - suc place) = omega (arith, h.least) in
      ap (λ (k : ℕ). get_or (n ∷ ns) k m.0) next ∙ h.is;
}

pub placed_at : (place : ℕ) (ns : List (Bor Name)) → All (IsAt place ns) (placed_from place ns)
placed_at place [] = All-nil (IsAt place [])
placed_at place (n ∷ ns) = All-cons (IsAt place (n ∷ ns)) (n, place) (placed_from (suc place) ns) first (more (placed_at (suc place) ns))
  where
    first : IsAt place (n ∷ ns) (n, place)
    first =
        let none : place - place ≡ 0 = omega arith in
        record { least = omega arith; most = omega arith; is = ap (λ (k : ℕ). get_or (n ∷ ns) k n) none }

    more : All (IsAt (suc place) ns) (placed_from (suc place) ns) → All (IsAt place (n ∷ ns)) (placed_from (suc place) ns)
    more all k d l = one_on place n ns (get_or (placed_from (suc place) ns) k d) (all k d l)

-- ---- the first place of a name

less : (m n : ℕ) → m < n → is_lt (nat_cmp m n) ≡ true
less m n l = grind (arith, l)

earlier : (a b : Placed) → a.0.now ≡ b.0.now → a.1 < b.1 → is_lt (placed_cmp a b) ≡ true
earlier a b e l =
    let tie = ap (λ (n : Name). slice_cmp nat_cmp n b.0.now) e ∙ tied_itself nat_list_cmp_total b.0.now in
    ap (λ (o : Ordering). is_lt (ordering_then o (nat_cmp a.1 b.1))) tie ∙ less a.1 b.1 l

-- what stands at a place, as it was read and at another default
read_at : (xs : List Placed) (i : ℕ) (m d : Placed) → i < length xs → m ≡ get_or xs i m → get_or xs i d ≡ m
read_at xs i m d l is = get_or_default xs i d m l ∙ sym is

-- where a name stands among those in order
at : (ns : List (Bor Name)) (xs : List Placed) → AreInOrder ns xs → (k : ℕ) (d : Bor Name) → k < length ns → Contains xs (get_or ns k d, k)
at ns xs order k d l =
    let same : 0 + k ≡ k = omega arith in
    Contains-permutation (placed_from 0 ns) xs (get_or ns k d, k) order.same
    (subst (λ (n : ℕ). Contains (placed_from 0 ns) (get_or ns k d, n)) same (placed_in 0 ns k d l))

-- what stands among those in order is in its place
placed : (ns : List (Bor Name)) (xs : List Placed) → AreInOrder ns xs → (i : ℕ) (m : Placed) → i < length xs → m ≡ get_or xs i m → IsAt 0 ns m
placed ns xs order i m l is = subst (IsAt 0 ns) (sym is) (All-permutation (IsAt 0 ns) (placed_from 0 ns) xs order.same (placed_at 0 ns) i m l)

none_before : (ns : List (Bor Name)) (xs : List Placed) → AreInOrder ns xs → (name : Name) (i : ℕ) (m : Placed) → AreBelow xs name i →
    i < length xs → m ≡ get_or xs i m → bytes_eq m.0.now name ≡ true → m.1 < length ns → NoneYet (texts ns) name m.1
none_before ns xs order name i m below l is same within k before = by_cases (bytes_eq (get_or (texts ns) k []) name) refl
  where
    here : bytes_eq (get_or ns k m.0).now name ≡ true → ⊥
    here e =
        let x : Placed = (get_or ns k m.0, k) in
        let stands = at ns xs order k m.0 (omega (arith, before, within)) in
        let q = stands.0 in
        elim (split q) [
          | inl first ↦
              let lower = subst (λ (m : Placed). lt m.0.now name ≡ true) stands.2 (below.point.0 q x (omega arith) first) in
              let other = same_no x.0.now name e in absurd (cc)
          | inr last ↦
              let apart = later xs order.rises i q x last stands.1 in
              let named : (get_or ns k m.0).now ≡ m.0.now = same_name _ name e ∙ sym (same_name m.0.now name same) in
              let lower = earlier x m named before in
              let apart' : is_lt (placed_cmp x m) ≡ false =
              ap (λ (y : Placed). is_lt (placed_cmp y m)) (sym stands.2) ∙ ap (λ (y : Placed). is_lt (placed_cmp (get_or xs q x) y)) (sym (read_at xs i m x l is)) ∙ apart in
              absurd (cc)
        ]
      where
        split : (q : ℕ) → (q < i) ⊎ (i ≤ q)
        split q = grind arith

    by_cases : (b : Bool) → bytes_eq (get_or (texts ns) k []) name ≡ b → b ≡ false
    by_cases true e = absurd (here (ap (λ (n : Name). bytes_eq n name) (sym (text_at ns k m.0 (omega (arith, before, within)))) ∙ e))
    by_cases false e = refl

pub found_at : (ns : List (Bor Name)) (xs : List Placed) → AreInOrder ns xs → (name : Name) (i : ℕ) (m : Placed) → AreBelow xs name i →
    i < length xs → m ≡ get_or xs i m → bytes_eq m.0.now name ≡ true → place_in (texts ns) name ≡ Some m.1
found_at ns xs order name i m below l is same =
    let spot = placed ns xs order i m l is in
    let within : m.1 < length ns = omega (arith, spot.most) in
    let zero_less : m.1 - 0 ≡ m.1 = omega arith in
    let there : (get_or ns m.1 m.0).now ≡ m.0.now = ap (λ (k : ℕ). (get_or ns k m.0).now) (sym zero_less) ∙ ap (λ (n : Bor Name). n.now) spot.is in
    let texts_as_many = length-map ns (λ (n : Bor Name). n.now) in
    found (texts ns) name m.1 (none_before ns xs order name i m below l is same within) (omega (arith, within, texts_as_many))
    (ap (λ (n : Name). bytes_eq n name) (text_at ns m.1 m.0 within ∙ there) ∙ same)

pub missing_at : (ns : List (Bor Name)) (xs : List Placed) → AreInOrder ns xs → (name : Name) (i : ℕ) → AreBelow xs name i →
    (i < length xs → (m : Placed) × (m ≡ get_or xs i m) × (bytes_eq m.0.now name ≡ false)) → place_in (texts ns) name ≡ None
missing_at ns xs order name i below other = missing (texts ns) name (length ns) none (omega (arith, length-map ns (λ (n : Bor Name). n.now)))
  where
    here : (x : Placed) (q : ℕ) → q < length xs → get_or xs q x ≡ x → bytes_eq x.0.now name ≡ true → ⊥
    here x q l is e =
        elim (split q) [
          | inl first ↦
              let lower = subst (λ (m : Placed). lt m.0.now name ≡ true) is (below.point.0 q x (omega arith) first) in
              let other = same_no x.0.now name e in absurd (cc)
          | inr last ↦
              let first : i < length xs = omega (arith, last, l) in
              let m = (other first).0 in
              let m_is = read_at xs i m x first (other first).1 in
              let apart = later_name xs order.rises i q x last l in
              let named = same_name x.0.now name e in
              let apart' : lt name m.0.now ≡ false = ap (λ (n : Name). lt n m.0.now) (sym named) ∙ ap (λ (y : Placed). lt y.0.now m.0.now) (sym is) ∙ ap (λ (y : Placed). lt (get_or xs q x).0.now y.0.now) (sym m_is) ∙ apart in
              let not_below : lt m.0.now name ≡ false = ap (λ (y : Placed). lt y.0.now name) (sym m_is) ∙ below.point.1 i x (omega arith) first in
              let up_to : is_le (slice_cmp nat_cmp m.0.now name) ≡ true = up_to_is m.0.now name ∙ ap not apart' in
              let same = same_between m.0.now name not_below up_to in
              let not_same = (other first).2 in
              absurd (cc)
        ]
      where
        split : (q : ℕ) → (q < i) ⊎ (i ≤ q)
        split q = grind arith

    none : NoneYet (texts ns) name (length ns)
    none k within = by_cases (bytes_eq (get_or (texts ns) k []) name) refl
      where
        bar : bytes_eq (get_or (texts ns) k []) name ≡ true → ⊥
        bar e =
            let d = some_of ns (omega (arith, within)) in
            let stands = at ns xs order k d within in
            here (get_or ns k d, k) stands.0 stands.1 stands.2 (ap (λ (n : Name). bytes_eq n name) (sym (text_at ns k d within)) ∙ e)

        by_cases : (b : Bool) → bytes_eq (get_or (texts ns) k []) name ≡ b → b ≡ false
        by_cases true e = absurd (bar e)
        by_cases false e = refl

-- ---- how often

-- what a name counts, where it is the one that is counted
counts : Name → Placed → ℕ
counts name m = cond (bytes_eq m.0.now name) 1 0

times_sum : (place : ℕ) (ns : List (Bor Name)) (name : Name) → sum_by (counts name) (placed_from place ns) ≡ times_in name (texts ns)
unfolding counts
times_sum place [] name = refl
times_sum place (n ∷ ns) name = sum_by-cons (counts name) (n, place) (placed_from (suc place) ns) ∙ one (bytes_eq n.now name) ∙ ap (λ (k : ℕ). if bytes_eq n.now name then suc k else k) (times_sum (suc place) ns name)
  where
    one : (b : Bool) → cond b 1 0 + sum_by (counts name) (placed_from (suc place) ns) ≡ (if b then suc (sum_by (counts name) (placed_from (suc place) ns)) else sum_by (counts name) (placed_from (suc place) ns))
    one true = omega arith
    one false = omega arith

-- of those before a place each counts nothing, of those to another place each counts one, and of the rest each counts nothing
span : (f : Placed → ℕ) (xs : List Placed) (low high : ℕ) → low ≤ high → high ≤ length xs →
    ((k : ℕ) (d : Placed) → k < low → f (get_or xs k d) ≡ 0) → ((k : ℕ) (d : Placed) → low ≤ k → k < high → f (get_or xs k d) ≡ 1) →
    ((k : ℕ) (d : Placed) → high ≤ k → k < length xs → f (get_or xs k d) ≡ 0) → sum_by f xs + low ≡ high
span f [] low high a b before within after = omega (arith, a, b)
span f (x ∷ xs) zero zero a b before within after =
    let rest = span f xs 0 0 (omega arith) (omega arith) (λ k d l. absurd (omega (arith, l))) (λ k d h l. absurd (omega (arith, l))) (λ k d h l. after (suc k) d (omega arith) (omega (arith, l))) in
    let first = after 0 x (omega arith) (omega arith) in
    omega (arith, sum_by-cons f x xs, rest, first)
span f (x ∷ xs) zero (suc high) a b before within after =
    let rest = span f xs 0 high (omega arith) (omega (arith, b)) (λ k d l. absurd (omega (arith, l))) (λ k d h l. within (suc k) d (omega arith) (omega (arith, l))) (λ k d h l. after (suc k) d (omega (arith, h)) (omega (arith, l))) in
    let first = within 0 x (omega arith) (omega arith) in
    omega (arith, sum_by-cons f x xs, rest, first)
span f (x ∷ xs) (suc low) zero a b before within after = absurd (omega (arith, a))
span f (x ∷ xs) (suc low) (suc high) a b before within after =
    let rest = span f xs low high (omega (arith, a)) (omega (arith, b)) (λ k d l. before (suc k) d (omega (arith, l))) (λ k d h l. within (suc k) d (omega (arith, h)) (omega (arith, l))) (λ k d h l. after (suc k) d (omega (arith, h)) (omega (arith, l))) in
    let first = before 0 x (omega arith) in
    omega (arith, sum_by-cons f x xs, rest, first)

pub below_up_to : (xs : List Placed) (name : Name) (low high : ℕ) → AreBelow xs name low → AreUpTo xs name high → low ≤ high
below_up_to xs name low high below upto = by_cases (split low high)
  where
    split : (low high : ℕ) → (low ≤ high) ⊎ (high < low)
    split low high = grind arith

    by_cases : (low ≤ high) ⊎ (high < low) → low ≤ high
    by_cases h = elim h [ inl h ↦ h | inr h ↦ absurd (bar h) ]
      where
        bar : high < low → ⊥
        bar h =
            let d = some_of xs (omega (arith, h, below.few)) in
            both (get_or xs high d).0.now name (below.point.0 high d (omega arith) h) (upto.point.1 high d (omega arith) (omega (arith, h, below.few)))

pub times_at : (ns : List (Bor Name)) (xs : List Placed) → AreInOrder ns xs → (name : Name) (low high : ℕ) → AreBelow xs name low → AreUpTo xs name high →
    high - low ≡ times_in name (texts ns)
unfolding counts
times_at ns xs order name low high below upto =
    let least = below_up_to xs name low high below upto in
    let sum = span (counts name) xs low high least upto.few before within after in
    let all = sum_by-IsPermutation (counts name) (placed_from 0 ns) xs order.same ∙ times_sum 0 ns name in
    omega (arith, sum, all, least)
  where
    nothing : (b : Bool) → b ≡ false → ◌≡◌ {A = ℕ} (cond b 1 0) 0
    nothing true e = absurd (cc)
    nothing false e = refl

    one : (b : Bool) → b ≡ true → ◌≡◌ {A = ℕ} (cond b 1 0) 1
    one true e = refl
    one false e = absurd (cc)

    before : (k : ℕ) (d : Placed) → k < low → counts name (get_or xs k d) ≡ 0
    before k d l = nothing (bytes_eq (get_or xs k d).0.now name) (below_no (get_or xs k d).0.now name (below.point.0 k d (omega arith) l))

    within : (k : ℕ) (d : Placed) → low ≤ k → k < high → counts name (get_or xs k d) ≡ 1
    within k d h l =
        one (bytes_eq (get_or xs k d).0.now name) (same_between (get_or xs k d).0.now name (below.point.1 k d h (omega (arith, l, upto.few))) (upto.point.0 k d (omega arith) l))

    after : (k : ℕ) (d : Placed) → high ≤ k → k < length xs → counts name (get_or xs k d) ≡ 0
    after k d h l = nothing (bytes_eq (get_or xs k d).0.now name) (above_no (get_or xs k d).0.now name (upto.point.1 k d h l))
