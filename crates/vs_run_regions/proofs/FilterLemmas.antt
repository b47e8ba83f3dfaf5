-- Elements that pass a test.
use Rattle.std.proofs.Common.{◌≡◌, ℕ, ◌||◌, not, length, Bool, true, false, cond, List, [], ◌∷◌, filter, refl, sym, ◌∙◌, ap, arith}
use Rattle.std.specs.Prelude.{nat_eq}
use Rattle.std.specs.List.{list_any}
use Rattle.std.proofs.lemmas.Bool.{ne_eqb}
use Rattle.vs_run_regions.specs.FilterLaws.{is_filled}

filled_by : {A : Type 0} (c : Bool) (x : A) (r : Bool) (xs : List A) → r ≡ is_filled xs → (c || r) ≡ is_filled (cond c (x ∷ xs) xs)
filled_by true x r xs e = refl
filled_by false x r xs e = e

pub any_filled : {A : Type 0} (p : A → Bool) (xs : List A) → list_any p xs ≡ is_filled (filter p xs)
any_filled p [] = refl
any_filled p (x ∷ xs) = filled_by (p x) x (list_any p xs) (filter p xs) (any_filled p xs)

pub empty_of : {A : Type 0} (xs : List A) → is_filled xs ≡ false → xs ≡ []
empty_of [] h = refl
empty_of (x ∷ xs) h = cc

pub none_any : {A : Type 0} (p : A → Bool) (xs : List A) → list_any p xs ≡ false → filter p xs ≡ []
none_any p xs h = empty_of (filter p xs) (sym (any_filled p xs) ∙ h)

-- ---- one test after another
skip_by : {A : Type 0} (p : A → Bool) (x : A) (c d : Bool) (ys zs : List A) → p x ≡ d → (d ≡ true → c ≡ true) → filter p ys ≡ zs → filter p (cond c (x ∷ ys) ys) ≡ cond d (x ∷ zs) zs
skip_by p x true true ys zs e f h = ap (λ b. cond b (x ∷ filter p ys) (filter p ys)) e ∙ ap (λ l. x ∷ l) h
skip_by p x true false ys zs e f h = ap (λ b. cond b (x ∷ filter p ys) (filter p ys)) e ∙ h
skip_by p x false true ys zs e f h = let no : false ≡ true = f refl in cc
skip_by p x false false ys zs e f h = h

pub filter_within : {A : Type 0} (p q : A → Bool) → ((x : A) → p x ≡ true → q x ≡ true) → (xs : List A) → filter p (filter q xs) ≡ filter p xs
filter_within p q f [] = refl
filter_within p q f (x ∷ xs) = skip_by p x (q x) (p x) (filter q xs) (filter p xs) refl (f x) (filter_within p q f xs)

out_by : {A : Type 0} (p : A → Bool) (x : A) (c : Bool) (ys : List A) → (c ≡ true → p x ≡ false) → filter p ys ≡ [] → filter p (cond c (x ∷ ys) ys) ≡ []
out_by p x true ys f h = ap (λ b. cond b (x ∷ filter p ys) (filter p ys)) (f refl) ∙ h
out_by p x false ys f h = h

pub filter_out : {A : Type 0} (p q : A → Bool) → ((x : A) → q x ≡ true → p x ≡ false) → (xs : List A) → filter p (filter q xs) ≡ []
filter_out p q f [] = refl
filter_out p q f (x ∷ xs) = out_by p x (q x) (filter q xs) (f x) (filter_out p q f xs)

-- ---- whether there is one
filled_size : {A : Type 0} (xs : List A) → not (nat_eq (length xs) 0) ≡ is_filled xs
filled_size [] = refl
filled_size (x ∷ xs) = ap not (ne_eqb (length (x ∷ xs)) 0 (λ e. omega arith))

-- a list that is empty or not, of the elements that pass a test
pub any_there : {A : Type 0} (p : A → Bool) (us xs : List A) (n : ℕ) (r : Bool) → filter p us ≡ xs → n ≡ length xs → r ≡ nat_eq n 0 → not r ≡ list_any p us
any_there p us xs n r f l e = ap not (e ∙ ap (λ m. nat_eq m 0) l) ∙ filled_size xs ∙ ap is_filled (sym f) ∙ sym (any_filled p us)

pub any_all : {A : Type 0} (xs : List A) (n : ℕ) (r : Bool) → n ≡ length xs → r ≡ nat_eq n 0 → not r ≡ list_any (λ _. true) xs
any_all [] n r l e = ap not (e ∙ ap (λ m. nat_eq m 0) l)
any_all (x ∷ xs) n r l e = ap not (e ∙ ap (λ m. nat_eq m 0) l) ∙ filled_size (x ∷ xs)
