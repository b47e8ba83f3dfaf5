-- Lists, place by place.
use Rattle.std.proofs.Common.{◌≡◌, ℕ, zero, suc, ◌+◌, ◌<◌, ◌⊎◌, inl, inr, ⊎_elim, Bool, true, false, ◌||◌, List, [], ◌∷◌, ◌++◌, Some, length, map, filter, All, refl, ap, sym, subst, ◌∙◌, arith, zero-add}
use Rattle.std.specs.List.{slice_get, list_any, AllZip}
use Rattle.std.proofs.lemmas.Option.{none-some, same_Some, slice_get_within, get_or_from_slice_get}
use Rattle.vs_design.specs.vs_logic4.proofs.Basics.{any_front as any_left, at_end as slice_end, filter_append as count_append, or_parts as any_either, slice_back, slice_front, zip_append}

-- ---- places

-- what stands in a list is in its first part, or behind that
pub slice_either : {A : Type 0} (xs ys : List A) (k : ℕ) (x : A) → slice_get (xs ++ ys) k ≡ Some x →
    ((k < length xs) × (slice_get xs k ≡ Some x)) ⊎ ((j : ℕ) × (k ≡ length xs + j) × (slice_get ys j ≡ Some x))
slice_either [] ys k x h = inr (k, sym (zero-add k), h)
slice_either (z ∷ zs) ys zero x h = inl (omega arith, h)
slice_either (z ∷ zs) ys (suc k) x h = ⊎_elim (λ p. inl (omega (arith, p.0), p.1)) (λ p. inr (p.0, ap suc p.1 ∙ more (length zs) p.0, p.2)) (slice_either zs ys k x h)
  where
    more : (a b : ℕ) → suc (a + b) ≡ suc a + b
    more a b = omega arith

-- the last one, or one before it
pub slice_push : {A : Type 0} (xs : List A) (x y : A) (k : ℕ) → slice_get (xs ++ x ∷ []) k ≡ Some y → ((k < length xs) × (slice_get xs k ≡ Some y)) ⊎ ((k ≡ length xs) × (x ≡ y))
slice_push [] x y zero h = inr (refl, same_Some x y h)
slice_push [] x y (suc k) h = absurd (none-some y h)
slice_push (z ∷ zs) x y zero h = inl (omega arith, h)
slice_push (z ∷ zs) x y (suc k) h = ⊎_elim (λ p. inl (omega (arith, p.0), p.1)) (λ p. inr (ap suc p.0, p.1)) (slice_push zs x y k h)

pub same_at : {A : Type 0} (xs : List A) (k : ℕ) (x y : A) → slice_get xs k ≡ Some x → slice_get xs k ≡ Some y → x ≡ y
same_at xs k x y h e = same_Some x y (sym h ∙ e)

pub all_at : {A : Type 0} (P : A → Type 0) (xs : List A) (i : ℕ) (x : A) → All P xs → slice_get xs i ≡ Some x → P x
all_at P xs i x h k = subst P (get_or_from_slice_get xs i x x k) (h i x (slice_get_within xs i x k))

-- ---- two lists, place by place

pub zip_length : {A B : Type 0} (R : A → B → Type 0) (xs : List A) (ys : List B) → AllZip R xs ys → length xs ≡ length ys
zip_length R [] [] h = refl
zip_length R [] (y ∷ ys) h = absurd h
zip_length R (x ∷ xs) [] h = absurd h
zip_length R (x ∷ xs) (y ∷ ys) h = ap suc (zip_length R xs ys h.1)

pub zip_right : {A B : Type 0} (R : A → B → Type 0) (xs : List A) (ys : List B) (k : ℕ) (y : B) → AllZip R xs ys → slice_get ys k ≡ Some y → (x : A) × (slice_get xs k ≡ Some x) × R x y
zip_right R [] [] k y h e = absurd (none-some y e)
zip_right R [] (z ∷ ys) k y h e = absurd h
zip_right R (x ∷ xs) [] k y h e = absurd h
zip_right R (x ∷ xs) (z ∷ ys) zero y h e = (x, refl, subst (R x) (same_Some z y e) h.0)
zip_right R (x ∷ xs) (z ∷ ys) (suc k) y h e = zip_right R xs ys k y h.1 e

pub zip_left : {A B : Type 0} (R : A → B → Type 0) (xs : List A) (ys : List B) (k : ℕ) (x : A) → AllZip R xs ys → slice_get xs k ≡ Some x → (y : B) × (slice_get ys k ≡ Some y) × R x y
zip_left R [] [] k x h e = absurd (none-some x e)
zip_left R [] (z ∷ ys) k x h e = absurd h
zip_left R (z ∷ xs) [] k x h e = absurd h
zip_left R (z ∷ xs) (y ∷ ys) zero x h e = (y, refl, subst (λ w. R w y) (same_Some z x e) h.0)
zip_left R (z ∷ xs) (y ∷ ys) (suc k) x h e = zip_left R xs ys k x h.1 e

pub zip_map : {A B : Type 0} (R Q : A → B → Type 0) (xs : List A) (ys : List B) → ((x : A) (y : B) → R x y → Q x y) → AllZip R xs ys → AllZip Q xs ys
zip_map R Q [] [] f h = h
zip_map R Q [] (y ∷ ys) f h = absurd h
zip_map R Q (x ∷ xs) [] f h = absurd h
zip_map R Q (x ∷ xs) (y ∷ ys) f h = (f x y h.0, zip_map R Q xs ys f h.1)

-- pairs, by what holds at each place
pub zip_by : {A B : Type 0} (R : A → B → Type 0) (xs : List A) (ys : List B) → length xs ≡ length ys → ((k : ℕ) (x : A) (y : B) → slice_get xs k ≡ Some x → slice_get ys k ≡ Some y → R x y) → AllZip R xs ys
zip_by R [] [] e f = tt
zip_by R [] (y ∷ ys) e f = absurd (omega (arith, e))
zip_by R (x ∷ xs) [] e f = absurd (omega (arith, e))
zip_by R (x ∷ xs) (y ∷ ys) e f = (f 0 x y refl refl, zip_by R xs ys (omega (arith, e)) (λ k a b p q. f (suc k) a b p q))

-- ---- tests

pub any_append : {A : Type 0} (p : A → Bool) (xs ys : List A) → list_any p xs ≡ false → list_any p ys ≡ false → list_any p (xs ++ ys) ≡ false
any_append p [] ys h k = k
any_append p (x ∷ xs) ys h k = by (p x) (any_append p xs ys) h
  where
    by : (b : Bool) → (list_any p xs ≡ false → list_any p ys ≡ false → list_any p (xs ++ ys) ≡ false) → (b || list_any p xs) ≡ false → (b || list_any p (xs ++ ys)) ≡ false
    by true rest g = g
    by false rest g = rest g k

pub any_right : {A : Type 0} (p : A → Bool) (xs ys : List A) → list_any p ys ≡ true → list_any p (xs ++ ys) ≡ true
any_right p [] ys h = h
any_right p (x ∷ xs) ys h = by (p x) (any_right p xs ys h)
  where
    by : (b : Bool) → list_any p (xs ++ ys) ≡ true → (b || list_any p (xs ++ ys)) ≡ true
    by true rest = refl
    by false rest = rest

pub any_none_map : {A B : Type 0} (p : B → Bool) (f : A → B) (xs : List A) → ((x : A) → p (f x) ≡ false) → list_any p (map f xs) ≡ false
any_none_map p f [] h = refl
any_none_map p f (x ∷ xs) h = by (p (f x)) (h x) (any_none_map p f xs h)
  where
    by : (b : Bool) → b ≡ false → list_any p (map f xs) ≡ false → (b || list_any p (map f xs)) ≡ false
    by true e rest = e
    by false e rest = rest
