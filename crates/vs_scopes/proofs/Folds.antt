-- Tests over lists, an element at a time.
use Rattle.std.proofs.Common.{◌≡◌, ℕ, zero, suc, ◌+◌, ◌<◌, Some, slice_get, Bool, true, false, ◌||◌, ◌&&◌, List, [], ◌∷◌, ◌++◌, length, map, take, get_or, refl, ap, sym, ◌∙◌}
use Rattle.std.proofs.lemmas.Bool.{or_parts}
use Rattle.std.proofs.lemmas.Option.{none-some, same_Some}
use Rattle.std.specs.List.{list_any, list_all, flat_map}
use Rattle.std.proofs.lemmas.List.{take_more, append-nil}
use Rattle.std.proofs.lemmas.List.Concat.{flat_map-append}
use Rattle.std.proofs.lemmas.List.Folds.{list_any-append, list_any-from_Any}
use Rattle.std.proofs.lemmas.Bool.{and_from as both_true, or_from as both_false, or_left as left_true, or_right as right_true}
use Rattle.vs_syntax.specs.vs_logic4.proofs.Basics.{take_push}

pub any_of_map : {A : Type 0} (p : A → Bool) (xs : List A) → list_any (λ b. b) (map p xs) ≡ list_any p xs
any_of_map p [] = refl
any_of_map p (x ∷ xs) = ap (λ b. p x || b) (any_of_map p xs)

pub all_of_map : {A : Type 0} (p : A → Bool) (xs : List A) → list_all (λ b. b) (map p xs) ≡ list_all p xs
all_of_map p [] = refl
all_of_map p (x ∷ xs) = ap (λ b. p x && b) (all_of_map p xs)

pub any_push : {A : Type 0} (p : A → Bool) (xs : List A) (x : A) → list_any p xs ≡ false → p x ≡ false → list_any p (xs ++ x ∷ []) ≡ false
any_push p xs x h k = list_any-append p xs (x ∷ []) ∙ both_false _ _ h (both_false _ _ k refl)

-- a test that one element passes
pub any_at : {A : Type 0} (p : A → Bool) (xs : List A) (i : ℕ) (x : A) → i < length xs → x ≡ get_or xs i x → p x ≡ true → list_any p xs ≡ true
any_at p xs i x h k f = list_any-from_Any p xs (i, x, h, sym k, f)

pub flat_more : {A B : Type 0} (f : A → List B) (xs : List A) (i : ℕ) (x : A) → i < length xs → x ≡ get_or xs i x → flat_map f (take (i + 1) xs) ≡ flat_map f (take i xs) ++ f x
flat_more f xs i x h k = ap (flat_map f) (take_push xs i x h k) ∙ flat_map-append f (take i xs) (x ∷ []) ∙ ap (λ l. flat_map f (take i xs) ++ l) (append-nil (f x))

-- a test that no element passes, at a place
pub any_false_at : {A : Type 0} (p : A → Bool) (xs : List A) (j : ℕ) (x : A) → list_any p xs ≡ false → slice_get xs j ≡ Some x → p x ≡ false
any_false_at p [] j x h k = absurd (none-some x k)
any_false_at p (y ∷ ys) zero x h k = ap p (sym (same_Some y x k)) ∙ (or_parts (p y) _ h).0
any_false_at p (y ∷ ys) (suc j) x h k = any_false_at p ys j x (or_parts (p y) _ h).1 k
