-- Lemmas on truth values, numbers and lists, which proofs of many layers use.
use Rattle.std.proofs.Common.{Bool, List, None, Option, Some, [], ap, arith, cond, drop, false, filter, get_or, inl, inr, is_some, length, lit<, map, max, not, pos, refl, slice_get, subst, suc, sym, take, true, zero, zero-add, ℕ, ℤ, ⊎_elim, ◌%◌, ◌&&◌, ◌*◌, ◌++◌, ◌+ℤ◌, ◌+◌, ◌-◌, ◌/◌, ◌<◌, ◌==◌, ◌^◌, ◌||◌, ◌∙◌, ◌∷◌, ◌≡◌, ◌≤◌, ◌⊎◌, ◌↔◌, IsTrue, slice_set}
use Rattle.std.proofs.lemmas.Bool.{and_parts, cases_Bool, false_from_ne_true, false≢true}
use Rattle.std.proofs.lemmas.Bool.Decides.{eqb_tells, nat_tests}
use Rattle.std.proofs.lemmas.Int.{ints}
use Rattle.std.proofs.lemmas.List.{drop_more, take_more, get_or_default}
use Rattle.std.proofs.lemmas.Nat.{shr-shr, shr_split}
use Rattle.std.proofs.lemmas.Nat.Bits.{bit_at_cat_low}
use Rattle.std.proofs.lemmas.Option.{get_or_from_slice_get, none-some, same_Some, slice_get-get_or}
use Rattle.std.proofs.lemmas.Slice.Eq.{bytes_eq-Decides}
use Rattle.std.specs.Int.{bit_at}
use Rattle.std.specs.List.{AllZip, Contains, list_all, list_any}
use Rattle.std.specs.Str.{bytes_eq}

pub and_right : (p q : Bool) → (p && q) ≡ true → q ≡ true
and_right true q h = h
and_right false q h = cc

pub and_left : (p q : Bool) → (p && q) ≡ true → p ≡ true
and_left true q h = refl
and_left false q h = h

pub right_false : (a b : Bool) → (a || b) ≡ false → b ≡ false
right_false true b h = cc
right_false false b h = h

pub left_false : (a b : Bool) → (a || b) ≡ false → a ≡ false
left_false true b h = cc
left_false false b h = refl

pub at_end : {A : Type 0} (xs : List A) (x : A) → slice_get (xs ++ x ∷ []) (length xs) ≡ Some x
at_end [] x = refl
at_end (z ∷ zs) x = at_end zs x

pub or_parts : (a b : Bool) → (a || b) ≡ true → (a ≡ true) ⊎ (b ≡ true)
or_parts true b h = inl refl
or_parts false b h = inr h

pub any_front : {A : Type 0} (p : A → Bool) (xs ys : List A) → list_any p xs ≡ true → list_any p (xs ++ ys) ≡ true
any_front p [] ys h = absurd (none h)
  where
    none : false ≡ true → ⊥
    none e = cc
any_front p (x ∷ xs) ys h = by (p x) (any_front p xs ys) h
  where
    by : (b : Bool) → (list_any p xs ≡ true → list_any p (xs ++ ys) ≡ true) → (b || list_any p xs) ≡ true → (b || list_any p (xs ++ ys)) ≡ true
    by true rest g = refl
    by false rest g = rest g

pub not_false : (b : Bool) → not b ≡ false → b ≡ true
not_false true h = refl
not_false false h = cc

pub bit_at-shr : (p n i : ℕ) → bit_at (p / 2 ^ n) i ≡ bit_at p (n + i)
bit_at-shr p n i = ap (λ q. q % 2) (shr-shr p n i)

pub or_none : (a : Bool) → (a || false) ≡ a
or_none true = refl
or_none false = refl

pub second_most : (a b : ℕ) → b ≤ max a (max b 0)
second_most a b = omega arith

pub bytes_apart : (m n : List ℕ) → (m ≡ n → ⊥) → bytes_eq m n ≡ false
bytes_apart m n h = false_from_ne_true (bytes_eq m n) (λ e. h ((bytes_eq-Decides m n).0 e))

pub take_push : {A : Type 0} (ls : List A) (i : ℕ) (m : A) → i < length ls → m ≡ get_or ls i m → take (i + 1) ls ≡ take i ls ++ m ∷ []
take_push ls i m h k = take_more ls i m h ∙ ap (λ z. take i ls ++ z ∷ []) (sym k)

pub any_map : {A B : Type 0} (p : B → Bool) (f : A → B) (xs : List A) → list_any p (map f xs) ≡ list_any (λ x. p (f x)) xs
any_map p f [] = refl
any_map p f (x ∷ xs) = ap (λ z. p (f x) || z) (any_map p f xs)

-- two tests that follow from each other
pub same_tests : (a b : Bool) → (a ≡ true → b ≡ true) → (b ≡ true → a ≡ true) → a ≡ b
same_tests true b f g = sym (f refl)
same_tests false true f g = g refl
same_tests false false f g = refl

pub slice_front : {A : Type 0} (xs ys : List A) (i : ℕ) (x : A) → slice_get xs i ≡ Some x → slice_get (xs ++ ys) i ≡ Some x
slice_front [] ys i x h = absurd (none-some x h)
slice_front (z ∷ xs) ys zero x h = h
slice_front (z ∷ xs) ys (suc i) x h = slice_front xs ys i x h

pub declared_at : (n : ℕ) → n < 2 → Contains (0 ∷ 1 ∷ []) n
declared_at zero h = (0, lit< tt, refl)
declared_at (suc zero) h = (1, lit< tt, refl)
declared_at (suc (suc n)) h = absurd (omega (arith, h))

pub same_lists : {A : Type 0} (xs ys : List A) → ((k : ℕ) → slice_get xs k ≡ slice_get ys k) → xs ≡ ys
same_lists [] [] h = refl
same_lists [] (y ∷ ys) h = let e = h 0 in cc
same_lists (x ∷ xs) [] h = let e = h 0 in cc
same_lists (x ∷ xs) (y ∷ ys) h =
    let first : Some x ≡ Some y = h 0 in
    let rest : xs ≡ ys = same_lists xs ys (λ k. h (suc k)) in
    cc

pub and_false : (b : Bool) → (b && false) ≡ false
and_false true = refl
and_false false = refl

pub there : {A : Type 0} (xs : List A) (i : ℕ) → i < length xs → (x : A) × (slice_get xs i ≡ Some x)
there [] i h = absurd (omega arith)
there (x ∷ xs) zero h = (x, refl)
there (x ∷ xs) (suc i) h = there xs i (omega arith)

pub same_self : (n m : ℕ) → n ≡ m → (n == m) ≡ true
same_self n m h = grind (arith, nat_tests)

pub first_most : (a b : ℕ) → a ≤ max a (max b 0)
first_most a b = omega arith

pub filter_append : {A : Type 0} (p : A → Bool) (xs ys : List A) → length (filter p (xs ++ ys)) ≡ length (filter p xs) + length (filter p ys)
filter_append p [] ys = sym (zero-add (length (filter p ys)))
filter_append p (x ∷ xs) ys = by (p x) refl (filter_append p xs ys)
  where
    by : (b : Bool) → p x ≡ b → length (filter p (xs ++ ys)) ≡ length (filter p xs) + length (filter p ys) → length (filter p (x ∷ xs ++ ys)) ≡ length (filter p (x ∷ xs)) + length (filter p ys)
    by true h rest = rw h (omega (arith, rest))
    by false h rest = rw h rest

pub front_of : {A : Type 0} (xs : List A) (i : ℕ) (x : A) → i < length xs → x ≡ get_or xs i x → drop i xs ≡ x ∷ drop (i + 1) xs
front_of xs i x h k = drop_more xs i x h ∙ ap (λ z. z ∷ drop (i + 1) xs) (sym k)

pub zip_at : {A B : Type 0} (R : A → B → Type 0) (xs : List A) (ys : List B) (k : ℕ) (x : A) (y : B) → AllZip R xs ys → slice_get xs k ≡ Some x → slice_get ys k ≡ Some y → R x y
zip_at R [] ys k x y h e f = absurd (none-some x e)
zip_at R (a ∷ xs) [] k x y h e f = absurd (none-some y f)
zip_at R (a ∷ xs) (b ∷ ys) zero x y h e f = subst (λ z. R z y) (same_Some a x e) (subst (R a) (same_Some b y f) h.0)
zip_at R (a ∷ xs) (b ∷ ys) (suc k) x y h e f = zip_at R xs ys k x y h.1 e f

pub at_front : {A : Type 0} (xs ys : List A) (k : ℕ) (x : A) → slice_get xs k ≡ Some x → (k < length xs) × (slice_get (xs ++ ys) k ≡ Some x)
at_front [] ys k x h = absurd (none-some x h)
at_front (z ∷ zs) ys zero x h = (omega arith, h)
at_front (z ∷ zs) ys (suc k) x h = let p = at_front zs ys k x h in (omega (arith, p.0), p.1)

pub get_or_same : {A : Type 0} (xs : List A) (i : ℕ) (d : A) → i < length xs → get_or xs i d ≡ get_or xs i (get_or xs i d)
get_or_same xs i d l = sym (get_or_from_slice_get xs i (get_or xs i d) (get_or xs i d) (slice_get-get_or xs i d l))

pub map_twice : {A B C : Type 0} (f : B → C) (g : A → B) (xs : List A) → map f (map g xs) ≡ map (λ x. f (g x)) xs
map_twice f g [] = refl
map_twice f g (x ∷ xs) = ap (λ ys. f (g x) ∷ ys) (map_twice f g xs)

pub filter_some : {A : Type 0} (p : A → Bool) (xs : List A) → filter p xs ≡ [] → list_any p xs ≡ false
filter_some p [] h = refl
filter_some p (x ∷ xs) h =
    elim (cases_Bool (p x)) [
      | inl hit ↦ let e : x ∷ filter p xs ≡ [] = sym (ap (λ b. cond b (x ∷ filter p xs) (filter p xs)) hit) ∙ h in cc
      | inr miss ↦ let e : filter p xs ≡ [] = sym (ap (λ b. cond b (x ∷ filter p xs) (filter p xs)) miss) ∙ h in
          ap (λ b. b || list_any p xs) miss ∙ filter_some p xs e
    ]

pub same_first : {A : Type 0} (x y : A) (xs ys : List A) → x ∷ xs ≡ y ∷ ys → x ≡ y
same_first x y xs ys h = cc

pub get-take : {A : Type 0} (n k : ℕ) (xs : List A) → k < n → slice_get (take n xs) k ≡ slice_get xs k
get-take zero k xs h = absurd (omega (arith, h))
get-take (suc n) k [] h = refl
get-take (suc n) zero (x ∷ xs) h = refl
get-take (suc n) (suc k) (x ∷ xs) h = get-take n k xs (omega (arith, h))

pub get-drop : {A : Type 0} (l k : ℕ) (xs : List A) → slice_get (drop l xs) k ≡ slice_get xs (l + k)
get-drop zero k xs = let e : k ≡ 0 + k = omega arith in ap (slice_get xs) e
get-drop (suc l) k [] = refl
get-drop (suc l) k (x ∷ xs) = let e : suc (l + k) ≡ suc l + k = omega arith in get-drop l k xs ∙ ap (slice_get (x ∷ xs)) e

pub and_true : (b : Bool) → (b && true) ≡ b
and_true true = refl
and_true false = refl

pub bit_at-wrapped : (p i : ℕ) → i < 64 → bit_at (p % 2 ^ 64) i ≡ bit_at p i
bit_at-wrapped p i h =
    let whole : p ≡ p / 2 ^ 64 * 2 ^ 64 + p % 2 ^ 64 = sym (shr_split p 64) in
    sym (ap (λ q. bit_at q i) whole ∙ bit_at_cat_low (p / 2 ^ 64) 64 (p % 2 ^ 64) i h)

pub plus_zero : (z : ℤ) → z +ℤ pos 0 ≡ z
plus_zero z = omega (arith, ints)

pub plus_suc : (z : ℤ) (k : ℕ) → (z +ℤ pos 1) +ℤ pos k ≡ z +ℤ pos (suc k)
plus_suc z k = omega (arith, ints)

pub element_of : {A : Type 0} (p : A → Bool) (xs : List A) → list_any p xs ≡ true → (i : ℕ) × (x : A) × (slice_get xs i ≡ Some x) × (p x ≡ true)
element_of p [] h = absurd (false≢true h)
element_of p (x ∷ xs) h =
    elim (cases_Bool (p x)) [
      | inl hit ↦ (0, x, refl, hit)
      | inr miss ↦ let r = element_of p xs (sym (ap (λ b. b || list_any p xs) miss) ∙ h) in (suc r.0, r.1, r.2, r.3)
    ]

pub zip_append : {A B : Type 0} (R : A → B → Type 0) (xs : List A) (ys : List B) (us : List A) (vs : List B) → AllZip R xs ys → AllZip R us vs → AllZip R (xs ++ us) (ys ++ vs)
zip_append R [] [] us vs h k = k
zip_append R [] (y ∷ ys) us vs h k = absurd h
zip_append R (x ∷ xs) [] us vs h k = absurd h
zip_append R (x ∷ xs) (y ∷ ys) us vs h k = (h.0, zip_append R xs ys us vs h.1 k)

pub slice_back : {A : Type 0} (xs ys : List A) (i : ℕ) → slice_get (xs ++ ys) (length xs + i) ≡ slice_get ys i
slice_back [] ys i = ap (slice_get ys) (zero-add i)
slice_back (z ∷ xs) ys i =
    let e : length (z ∷ xs) + i ≡ suc (length xs + i) = omega arith in
    ap (slice_get (z ∷ xs ++ ys)) e ∙ slice_back xs ys i

pub or-true : (b : Bool) → (b || true) ≡ true
or-true true = refl
or-true false = refl

pub any_none : {A : Type 0} (xs : List A) → list_any (λ (x : A). false) xs ≡ false
any_none [] = refl
any_none (x ∷ xs) = any_none xs

pub past_end : {A : Type 0} (xs : List A) (k : ℕ) → (k < length xs → ⊥) → slice_get xs k ≡ None
past_end [] k h = refl
past_end (x ∷ xs) zero h = absurd (h (omega arith))
past_end (x ∷ xs) (suc k) h = past_end xs k (λ b. h (omega arith))

pub at_place : {A B : Type 0} (g : A → B) (xs : List A) (i : ℕ) (x : A) → i < length xs → x ≡ get_or xs i x → slice_get (map g xs) i ≡ Some (g x)
at_place g [] i x h k = absurd (omega arith)
at_place g (y ∷ ys) zero x h k = ap (λ z. Some (g z)) (sym k)
at_place g (y ∷ ys) (suc i) x h k = at_place g ys i x (omega arith) k

pub past_due : (time due : ℕ) (active : Bool) → active ≡ false → (not active && due == time) ≡ false → time ≤ due → time < due
past_due time due true h k early = cc
past_due time due false h k early =
    ⊎_elim (λ same. absurd (let no_way : true ≡ false = sym same.0 ∙ k in cc)) (λ other. let apart : due ≡ time → ⊥ = other.1 in omega (arith, apart)) (eqb_tells due time)

pub tail_is : {A : Type 0} (x y : A) (xs ys : List A) → x ∷ xs ≡ y ∷ ys → xs ≡ ys
tail_is x y xs ys h = cc

pub pending_of : {A : Type 0} (o : Option A) → is_some o ≡ true → (x : A) × (o ≡ Some x)
pending_of None h = absurd (false≢true h)
pending_of (Some x) h = (x, refl)

pub all_at : {A : Type 0} (p : A → Bool) (xs : List A) (i : ℕ) (x : A) → slice_get xs i ≡ Some x → list_all p xs ≡ true → p x ≡ true
all_at p [] i x is h = cc
all_at p (y ∷ xs) zero x is h = let e : y ≡ x = cc in ap p (sym e) ∙ (and_parts (p y) (list_all p xs) h).0
all_at p (y ∷ xs) (suc i) x is h = all_at p xs i x is (and_parts (p y) (list_all p xs) h).1

pub or_four : (a b t u : Bool) → ((a || b) || (t || u)) ≡ ((a || t) || (b || u))
or_four true b t u = refl
or_four false true true u = refl
or_four false true false u = refl
or_four false false t u = refl

pub one_less : (limit i : ℕ) → i < limit → limit - i ≡ suc (limit - (i + 1))
one_less limit i h = omega arith

pub none_left : (limit i : ℕ) → limit ≤ i → limit - i ≡ zero
none_left limit i h = omega arith

pub or_false : (b c : Bool) → c ≡ false → (b || c) ≡ b
or_false true c h = refl
or_false false c h = h

-- a number below the next one is below, or is it
pub below_or : (i n : ℕ) → i < n + 1 → (i < n) ⊎ (i ≡ n)
below_or i n h = grind (arith, h)

-- what holds of each element, and of one more
pub each_more : {A : Type 0} (P : ℕ → A → Type 0) (xs : List A) (x : A) → ((k : ℕ) (y : A) → slice_get xs k ≡ Some y → P k y) → P (length xs) x →
    (k : ℕ) (y : A) → slice_get (xs ++ x ∷ []) k ≡ Some y → P k y
each_more P [] x before here zero y is = subst (P 0) (same_Some x y is) here
each_more P [] x before here (suc k) y is = absurd (none-some y is)
each_more P (z ∷ xs) x before here zero y is = before 0 y is
each_more P (z ∷ xs) x before here (suc k) y is = each_more (λ n w. P (suc n) w) xs x (λ n w e. before (suc n) w e) here k y is

pub none_in : {A : Type 0} (x : A) → Contains [] x → ⊥
none_in x h = omega (arith, h.1)

-- what was read stands at its place
pub got : {A : Type 0} (xs : List A) (i : ℕ) (x : A) → i < length xs → x ≡ get_or xs i x → slice_get xs i ≡ Some x
got xs i x h e = slice_get-get_or xs i x h ∙ ap Some (sym e)

pub map_at : {A B : Type 0} (f : A → B) (xs : List A) (i : ℕ) (x : A) → slice_get xs i ≡ Some x → slice_get (map f xs) i ≡ Some (f x)
map_at f [] i x h = absurd (none-some x h)
map_at f (y ∷ ys) zero x h = ap (λ z. Some (f z)) (same_Some y x h)
map_at f (y ∷ ys) (suc i) x h = map_at f ys i x h

pub declared_3 : (n : ℕ) → n < 3 → Contains (0 ∷ 1 ∷ 2 ∷ []) n
declared_3 zero h = (0, lit< tt, refl)
declared_3 (suc zero) h = (1, lit< tt, refl)
declared_3 (suc (suc zero)) h = (2, lit< tt, refl)
declared_3 (suc (suc (suc n))) h = absurd (omega (arith, h))

pub one_in : {A : Type 0} (x z : A) → Contains (x ∷ []) z → x ≡ z
one_in x z (zero, within, is) = is
one_in x z (suc k, within, is) = absurd (omega (arith, within))

pub set_here : {A : Type 0} (xs : List A) (i : ℕ) (y : A) → i < length xs → slice_get (slice_set xs i y) i ≡ Some y
set_here [] i y h = absurd (omega arith)
set_here (x ∷ xs) zero y h = refl
set_here (x ∷ xs) (suc i) y h = set_here xs i y (omega arith)

pub all_do : (P : ℕ → Type 0) (xs : List ℕ) (i : ℕ) → length xs ≤ i → ((k : ℕ) → k < i → P (get_or xs k 0)) → (IsTrue true ↔ ((r : ℕ) → Contains xs r → P r))
all_do P xs i h all = (λ t r c. subst P (get_or_default xs c.0 0 r c.1 ∙ c.2) (all c.0 (omega (arith, h, c.1))), λ f. grind arith)

pub one_not : (P : ℕ → Type 0) (xs : List ℕ) (i : ℕ) → i < length xs → (P (get_or xs i 0) → IsTrue false) → (IsTrue false ↔ ((r : ℕ) → Contains xs r → P r))
one_not P xs i h not = (λ t. absurd (grind (arith, t)), λ f. not (f (get_or xs i 0) (i, h, get_or_default xs i (get_or xs i 0) 0 h)))

pub inside : {A : Type 0} (xs : List A) (k : ℕ) → k < length xs → slice_get xs k ≡ None → ⊥
inside [] k l e = omega (arith, l)
inside (x ∷ xs) zero l e = none-some x (sym e)
inside (x ∷ xs) (suc k) l e = inside xs k (omega (arith, l)) e

pub set_twice : {A : Type 0} (xs : List A) (i : ℕ) (x y : A) → slice_set (slice_set xs i x) i y ≡ slice_set xs i y
set_twice [] i x y = refl
set_twice (z ∷ zs) zero x y = refl
set_twice {A} (z ∷ zs) (suc i) x y = ap (λ (l : List A). z ∷ l) (set_twice zs i x y)

pub only_one : {A : Type 0} (xs : List A) (x : A) → length xs ≡ 1 → x ≡ get_or xs 0 x → xs ≡ x ∷ []
only_one [] x h e = absurd (omega (arith, h))
only_one (y ∷ []) x h e = ap (λ z. z ∷ []) (sym e)
only_one (y ∷ z ∷ zs) x h e = absurd (omega (arith, h))
