-- Lists of what is written, as far as it is.
use Rattle.std.proofs.Common.{◌≡◌, ℕ, zero, suc, ◌+◌, ◌≤◌, Some, List, [], ◌∷◌, ◌++◌, length, map, take, slice_get, refl, sym, ◌∙◌, ap, arith}
use Rattle.std.proofs.lemmas.List.{map-append}
use Rattle.std.proofs.lemmas.Option.{same_Some}

take_one : {A : Type 0} (xs : List A) (i : ℕ) (x : A) → slice_get xs i ≡ Some x → take (suc i) xs ≡ take i xs ++ x ∷ []
take_one [] i x h = absurd (cc)
take_one (y ∷ ys) zero x h = ap (λ z. z ∷ []) (same_Some y x h)
take_one (y ∷ ys) (suc i) x h = ap (λ zs. y ∷ zs) (take_one ys i x h)

take_all : {A : Type 0} (xs : List A) (i : ℕ) → length xs ≤ i → take i xs ≡ xs
take_all [] zero h = refl
take_all [] (suc i) h = refl
take_all (x ∷ xs) zero h = absurd (omega (arith, h))
take_all (x ∷ xs) (suc i) h = ap (λ ys. x ∷ ys) (take_all xs i (omega (arith, h)))

-- one more is written, as it is asked
pub one_written : {A B C : Type 0} (f : A → C) (g : B → C) (xs : List B) (i : ℕ) (x : B) (ys more : List A) (y : A) → slice_get xs i ≡ Some x → more ≡ ys ++ y ∷ [] → f y ≡ g x →
    map f ys ≡ map g (take i xs) → map f more ≡ map g (take (i + 1) xs)
one_written f g xs i x ys more y is e same h =
    let next : i + 1 ≡ suc i = omega arith in
    ap (map f) e ∙ map-append f ys (y ∷ []) ∙ ap (λ zs. zs ++ f y ∷ []) h ∙ ap (λ z. map g (take i xs) ++ z ∷ []) same
    ∙ sym (map-append g (take i xs) (x ∷ [])) ∙ ap (map g) (sym (take_one xs i x is)) ∙ ap (λ n. map g (take n xs)) (sym next)

pub all_written : {A B C : Type 0} (f : A → C) (g : B → C) (xs : List B) (i : ℕ) (ys : List A) → length xs ≤ i → map f ys ≡ map g (take i xs) → map f ys ≡ map g xs
all_written f g xs i ys all h = h ∙ ap (map g) (take_all xs i all)

pub none_written : {A B C : Type 0} (f : A → C) (g : B → C) (xs : List B) (ys : List A) → ys ≡ [] → map f ys ≡ map g (take 0 xs)
none_written f g xs ys e = ap (map f) e
