-- Lists of the numbers of elements, and counts.
use Rattle.std.proofs.Common.{◌≡◌, ℕ, zero, suc, ◌+◌, ◌<◌, ◌≤◌, ◌^◌, ◌||◌, ◌&&◌, not, cond, Bool, true, false, Some, List, [], ◌∷◌, ◌++◌, map, length, slice_get, slice_set, nat_lt, refl, sym, ◌∙◌, ap, ap₂, arith, rules}
use Rattle.std.specs.List.{list_any}
use Rattle.std.proofs.Math.Bool.{or-false}
use Rattle.vs_design.specs.Stores.{changed_at}
use Rattle.vs_process.specs.Executions.{if_some}
use Rattle.vs_process.specs.Places.{Place}
use Rattle.vs_run_active.specs.Triggers.{changed_all}
use Rattle.vs_run_active.specs.ListCounts.{is_number, names, Lists, count}
use Rattle.vs_design.specs.vs_logic4.proofs.Basics.{and_false, and_true, or-true as or_true}

pub set_itself : {A : Type 0} (xs : List A) (i : ℕ) (x : A) → slice_get xs i ≡ Some x → slice_set xs i x ≡ xs
set_itself [] i x h = refl
set_itself {A} (z ∷ zs) zero x h = let e : z ≡ x = cc in ap (λ (v : A). v ∷ zs) (sym e)
set_itself {A} (z ∷ zs) (suc i) x h = ap (λ (l : List A). z ∷ l) (set_itself zs i x h)

-- ---- one element is set

same_set : {A : Type 0} (test : A → Bool) (xs : List A) (p : ℕ) (x y : A) → slice_get xs p ≡ Some x → test y ≡ test x → (i : ℕ) →
    if_some test (slice_get xs i) ≡ if_some test (slice_get (slice_set xs p y) i)
same_set test [] p x y here same i = cc
same_set test (z ∷ zs) zero x y here same zero = let e : z ≡ x = cc in ap test e ∙ sym same
same_set test (z ∷ zs) zero x y here same (suc i) = refl
same_set test (z ∷ zs) (suc p) x y here same zero = refl
same_set test (z ∷ zs) (suc p) x y here same (suc i) = same_set test zs p x y here same i

new_set : {A : Type 0} (test : A → Bool) (xs : List A) (p : ℕ) (x y : A) → slice_get xs p ≡ Some x → test y ≡ true → (i : ℕ) →
    (if_some test (slice_get xs i) || is_number p i) ≡ if_some test (slice_get (slice_set xs p y) i)
new_set test [] p x y here new i = cc
new_set test (z ∷ zs) zero x y here new zero = or_true (test z) ∙ sym new
new_set test (z ∷ zs) zero x y here new (suc i) = or-false (if_some test (slice_get zs i))
new_set test (z ∷ zs) (suc p) x y here new zero = or-false (test z)
new_set test (z ∷ zs) (suc p) x y here new (suc i) = new_set test zs p x y here new i

pub names-push : (ns : List ℕ) (n i : ℕ) → names (ns ++ n ∷ []) i ≡ (names ns i || is_number n i)
names-push [] n i = or-false (is_number n i)
names-push (m ∷ ns) n i = ap (λ (b : Bool). is_number m i || b) (names-push ns n i) ∙ or_assoc (is_number m i) (names ns i) (is_number n i)
  where
    or_assoc : (a b c : Bool) → (a || (b || c)) ≡ ((a || b) || c)
    or_assoc true b c = refl
    or_assoc false b c = refl

pub is_itself : (n : ℕ) → is_number n n ≡ true
is_itself zero = refl
is_itself (suc n) = is_itself n

-- an element that passes the test as the one before it
pub lists_same : {A : Type 0} {test : A → Bool} {xs : List A} {ns : List ℕ} → Lists test xs ns → (p : ℕ) (x y : A) → slice_get xs p ≡ Some x → test y ≡ test x → Lists test (slice_set xs p y) ns
lists_same {A} {test} {xs} {ns} h p x y here same = record { each = λ i. h.each i ∙ same_set test xs p x y here same i }

-- an element that passes the test now
pub lists_new : {A : Type 0} {test : A → Bool} {xs : List A} {ns : List ℕ} → Lists test xs ns → (p : ℕ) (x y : A) → slice_get xs p ≡ Some x → test y ≡ true → Lists test (slice_set xs p y) (ns ++ p ∷ [])
lists_new {A} {test} {xs} {ns} h p x y here new =
    record { each = λ i. names-push ns p i ∙ ap (λ (b : Bool). b || is_number p i) (h.each i) ∙ new_set test xs p x y here new i }

-- ---- all elements are changed

same_map : {A : Type 0} (test : A → Bool) (f : A → A) → ((x : A) → test (f x) ≡ test x) → (xs : List A) (i : ℕ) → if_some test (slice_get xs i) ≡ if_some test (slice_get (map f xs) i)
same_map test f same [] i = refl
same_map test f same (x ∷ xs) zero = sym (same x)
same_map test f same (x ∷ xs) (suc i) = same_map test f same xs i

pub lists_map : {A : Type 0} {test : A → Bool} {xs : List A} {ns : List ℕ} → Lists test xs ns → (f : A → A) → ((x : A) → test (f x) ≡ test x) → Lists test (map f xs) ns
lists_map {A} {test} {xs} {ns} h f same = record { each = λ i. h.each i ∙ same_map test f same xs i }

none_map : {A B : Type 0} (test : B → Bool) (f : A → B) → ((x : A) → test (f x) ≡ false) → (xs : List A) (i : ℕ) → false ≡ if_some test (slice_get (map f xs) i)
none_map test f off [] i = refl
none_map test f off (x ∷ xs) zero = sym (off x)
none_map test f off (x ∷ xs) (suc i) = none_map test f off xs i

pub lists_none : {A B : Type 0} (test : B → Bool) (f : A → B) → ((x : A) → test (f x) ≡ false) → (xs : List A) → Lists test (map f xs) []
lists_none test f off xs = record { each = none_map test f off xs }

-- ---- one element is changed

left : {A : Type 0} (test : A → Bool) (f : A → A) → ((x : A) → test (f x) ≡ false) → (n : ℕ) (xs : List A) (i : ℕ) →
    if_some test (slice_get (changed_at f n xs) i) ≡ (if_some test (slice_get xs i) && not (is_number n i))
left test f off n [] i = refl
left test f off zero (x ∷ xs) zero = off x ∙ sym (and_false (test x))
left test f off zero (x ∷ xs) (suc i) = sym (and_true (if_some test (slice_get xs i)))
left test f off (suc n) (x ∷ xs) zero = sym (and_true (test x))
left test f off (suc n) (x ∷ xs) (suc i) = left test f off n xs i

-- ---- the elements of a list are changed, one after another

still_covered : (n : Bool) (rest t : Bool) → ((n || rest) ≡ false → t ≡ false) → rest ≡ false → (t && not n) ≡ false
still_covered true rest t h off = and_false t
still_covered false rest t h off = and_true t ∙ h off

map_changed : {A : Type 0} (f : A → A) → ((x : A) → f (f x) ≡ f x) → (n : ℕ) (xs : List A) → map f (changed_at f n xs) ≡ map f xs
map_changed f twice n [] = refl
map_changed {A} f twice zero (x ∷ xs) = ap (λ (y : A). y ∷ map f xs) (twice x)
map_changed {A} f twice (suc n) (x ∷ xs) = ap (λ (l : List A). f x ∷ l) (map_changed f twice n xs)

unchanged : {A : Type 0} (test : A → Bool) (f : A → A) → ((x : A) → test x ≡ false → f x ≡ x) → (xs : List A) → ((i : ℕ) → if_some test (slice_get xs i) ≡ false) → xs ≡ map f xs
unchanged test f stays [] none = refl
unchanged {A} test f stays (x ∷ xs) none = ap₂ (λ (a : A) (l : List A). a ∷ l) (sym (stays x (none zero))) (unchanged test f stays xs (λ i. none (suc i)))

-- to go over a list of numbers that names every element which a function changes is to map it
pub visited : (test : Place → Bool) (f : Place → Place) → ((x : Place) → test x ≡ false → f x ≡ x) → ((x : Place) → test (f x) ≡ false) → (ns : List ℕ) (xs : List Place) →
    ((i : ℕ) → names ns i ≡ false → if_some test (slice_get xs i) ≡ false) → changed_all f ns xs ≡ map f xs
visited test f stays off [] xs covered = unchanged test f stays xs (λ i. covered i refl)
visited test f stays off (n ∷ ns) xs covered =
    visited test f stays off ns (changed_at f n xs)
    (λ i none. left test f off n xs i ∙ still_covered (is_number n i) (names ns i) (if_some test (slice_get xs i)) (covered i) none)
    ∙ map_changed f (λ x. stays (f x) (off x)) n xs

-- ---- counts

pub count_set : {A : Type 0} (test : A → Bool) (xs : List A) (p : ℕ) (x y : A) → slice_get xs p ≡ Some x → count test (slice_set xs p y) + cond (test x) 1 0 ≡ count test xs + cond (test y) 1 0
count_set test [] p x y here = cc
count_set {A} test (z ∷ zs) zero x y here = let e : z ≡ x = cc in omega (arith, ap {B = ℕ} (λ (v : A). cond (test v) 1 0) e)
count_set test (z ∷ zs) (suc p) x y here = omega (arith, count_set test zs p x y here)

-- an element that passes is counted
pub count_some : {A : Type 0} (test : A → Bool) (xs : List A) (p : ℕ) (x : A) → slice_get xs p ≡ Some x → cond (test x) 1 0 ≤ count test xs
count_some test [] p x here = cc
count_some {A} test (z ∷ zs) zero x here = let e : z ≡ x = cc in omega (arith, ap {B = ℕ} (λ (v : A). cond (test v) 1 0) e)
count_some test (z ∷ zs) (suc p) x here = omega (arith, count_some test zs p x here)

-- a count is above zero where an element passes
pub count_any : {A : Type 0} (test : A → Bool) (xs : List A) → nat_lt 0 (count test xs) ≡ list_any test xs
count_any test [] = refl
count_any test (x ∷ xs) = by_head (test x) (count test xs) (list_any test xs) (count_any test xs)
  where
    add_zero : (n : ℕ) → 0 + n ≡ n
    add_zero n = omega arith

    nat_lt-one : (n : ℕ) → nat_lt 0 (1 + n) ≡ true
    nat_lt-one n = search rules

    by_head : (b : Bool) (n : ℕ) (rest : Bool) → nat_lt 0 n ≡ rest → nat_lt 0 (cond b 1 0 + n) ≡ (b || rest)
    by_head true n rest h = nat_lt-one n
    by_head false n rest h = ap (nat_lt 0) (add_zero n) ∙ h

pub count-le-length : {A : Type 0} (test : A → Bool) (xs : List A) → count test xs ≤ length xs
count-le-length test [] = omega arith
count-le-length test (x ∷ xs) = omega (arith, at_most_one (test x), count-le-length test xs)
  where
    at_most_one : (b : Bool) → cond b 1 0 ≤ 1
    at_most_one true = omega arith
    at_most_one false = omega arith

-- ---- what a count says where an element is changed

pub counted : {A : Type 0} (test : A → Bool) (xs : List A) (n : ℕ) → n ≡ count test xs → (p : ℕ) (x : A) (b : Bool) → slice_get xs p ≡ Some x → b ≡ test x → cond b 1 0 ≤ n
counted {A} test xs n is p x b here passes = omega (arith, count_some test xs p x here, ap {B = ℕ} (λ (c : Bool). cond c 1 0) passes)

pub fits : {A : Type 0} (test : A → Bool) (xs : List A) (n : ℕ) → n ≡ count test xs → length xs < 2 ^ 63 → n < 2 ^ 63
fits {A} test xs n is short = omega (arith, count-le-length test xs)

pub recounted : {A : Type 0} (test : A → Bool) (xs : List A) (n : ℕ) → n ≡ count test xs → (m p : ℕ) (x y : A) (b c : Bool) → slice_get xs p ≡ Some x → b ≡ test x → c ≡ test y →
    m + cond b 1 0 ≡ n + cond c 1 0 → m ≡ count test (slice_set xs p y)
recounted {A} test xs n is m p x y b c here before behind sums =
    let f : cond b 1 0 ≡ cond (test x) 1 0 = ap {B = ℕ} (λ (v : Bool). cond v 1 0) before in
    let g : cond c 1 0 ≡ cond (test y) 1 0 = ap {B = ℕ} (λ (v : Bool). cond v 1 0) behind in
    omega (arith, f, g, count_set test xs p x y here)

pub count_start : {A B : Type 0} (test : B → Bool) (f : A → B) → ((x : A) → test (f x) ≡ true) → (xs : List A) → length (map f xs) ≡ count test (map f xs)
count_start test f all [] = refl
count_start test f all (x ∷ xs) = omega (arith, count_start test f all xs, ap {B = ℕ} (λ (v : Bool). cond v 1 0) (all x))

pub count_push : {A : Type 0} (test : A → Bool) (xs : List A) (x : A) → count test (xs ++ x ∷ []) ≡ count test xs + cond (test x) 1 0
count_push test [] x = omega arith
count_push test (z ∷ zs) x = omega (arith, count_push test zs x)
