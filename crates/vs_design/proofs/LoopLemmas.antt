-- Lemmas on loops that go through a list, where what is left of the list is told by a drop.
use Rattle.std.proofs.Common.{◌≡◌, ℕ, ◌+◌, ◌<◌, ◌≤◌, ◌||◌, Bool, true, false, List, [], ◌∷◌, ◌++◌, length, get_or, take, drop, map, sym, ◌∙◌, ap, append_assoc}
use Rattle.std.specs.List.{list_any}
use Rattle.std.proofs.lemmas.List.{append-nil, at_drop_more, drop_all, take_more, take_all, map-append}
use Rattle.vs_design.specs.Uses.{joined}

-- a loop that takes one step for each element: one element on
pub went_on : {A S B : Type 0} (whole : List A → S → B) (step : A → S → S) → ((x : A) (xs : List A) (s : S) → whole (x ∷ xs) s ≡ whole xs (step x s)) →
    (xs : List A) (i : ℕ) (d x : A) (now next : S) (all : B) →
    i < length xs → x ≡ get_or xs i d → next ≡ step x now → whole (drop i xs) now ≡ all → whole (drop (i + 1) xs) next ≡ all
went_on whole step law xs i d x now next all lt is made so_far =
    ap (λ s. whole (drop (i + 1) xs) s) made ∙ sym (law x (drop (i + 1) xs) now)
    ∙ ap (λ y. whole (y ∷ drop (i + 1) xs) now) is ∙ sym (at_drop_more (λ ys. whole ys now) xs i d lt) ∙ so_far

-- the same loop at its end
pub went_through : {A S : Type 0} (whole : List A → S → S) → ((s : S) → whole [] s ≡ s) →
    (xs : List A) (i : ℕ) (now all : S) → length xs ≤ i → whole (drop i xs) now ≡ all → now ≡ all
went_through whole law xs i now all past so_far = sym (law now) ∙ ap (λ ys. whole ys now) (sym (drop_all i xs past)) ∙ so_far

-- a loop that pushes what each element of a list has: one element on
pub each_pushed : {A B : Type 0} (f : A → List B) (xs : List A) (i : ℕ) (x : A) (out more all : List B) →
    i < length xs → x ≡ get_or xs i x → more ≡ out ++ f x → out ++ joined (map f (drop i xs)) ≡ all → more ++ joined (map f (drop (i + 1) xs)) ≡ all
each_pushed f xs i x out more all =
    went_on (λ ys rs. rs ++ joined (map f ys)) (λ y rs. rs ++ f y) (λ y ys rs. sym (append_assoc rs (f y) (joined (map f ys)))) xs i x x out more all

-- the same loop at its end
pub all_pushed : {A B : Type 0} (f : A → List B) (xs : List A) (i : ℕ) (out all : List B) →
    length xs ≤ i → out ++ joined (map f (drop i xs)) ≡ all → out ≡ all
all_pushed f xs = went_through (λ ys rs. rs ++ joined (map f ys)) append-nil xs

-- a loop that pushes the image of each element: one element on
pub image_pushed : {A B : Type 0} (f : A → B) (xs : List A) (i : ℕ) (x : A) (out more all : List B) →
    i < length xs → x ≡ get_or xs i x → more ≡ out ++ f x ∷ [] → out ++ map f (drop i xs) ≡ all → more ++ map f (drop (i + 1) xs) ≡ all
image_pushed f xs i x out more all =
    went_on (λ ys zs. zs ++ map f ys) (λ y zs. zs ++ f y ∷ []) (λ y ys zs. sym (append_assoc zs (f y ∷ []) (map f ys))) xs i x x out more all

-- the same loop at its end
pub images_pushed : {A B : Type 0} (f : A → B) (xs : List A) (i : ℕ) (out all : List B) →
    length xs ≤ i → out ++ map f (drop i xs) ≡ all → out ≡ all
images_pushed f xs = went_through (λ ys zs. zs ++ map f ys) append-nil xs

-- the images of the first elements of a list, and one more
pub image_more : {A B : Type 0} (f : A → B) (xs : List A) (i : ℕ) (x : A) (out more : List B) →
    i < length xs → x ≡ get_or xs i x → more ≡ out ++ f x ∷ [] → out ≡ map f (take i xs) → more ≡ map f (take (i + 1) xs)
image_more f xs i x out more lt is made so_far =
    made ∙ ap (λ ys. ys ++ f x ∷ []) so_far ∙ ap (λ y. map f (take i xs) ++ f y ∷ []) is
    ∙ sym (map-append f (take i xs) (get_or xs i x ∷ [])) ∙ ap (map f) (sym (take_more xs i x lt))

-- the images of all
pub images_all : {A B : Type 0} (f : A → B) (xs : List A) (i : ℕ) (out : List B) → length xs ≤ i → out ≡ map f (take i xs) → out ≡ map f xs
images_all f xs i out past so_far = so_far ∙ ap (map f) (take_all i xs past)

-- a loop that asks of each element of a list, as long as the answer is no: one element on
pub any_next : {A : Type 0} (p : A → Bool) (xs : List A) (i : ℕ) (x : A) (all : Bool) →
    i < length xs → x ≡ get_or xs i x → p x ≡ false → list_any p (drop i xs) ≡ all → list_any p (drop (i + 1) xs) ≡ all
any_next p xs i x all lt is told so_far = sym (ap (λ b. b || list_any p (drop (i + 1) xs)) (ap p (sym is) ∙ told)) ∙ sym (at_drop_more (list_any p) xs i x lt) ∙ so_far

-- the same loop where the answer is yes
pub any_here : {A : Type 0} (p : A → Bool) (xs : List A) (i : ℕ) (x : A) (all : Bool) →
    i < length xs → x ≡ get_or xs i x → p x ≡ true → list_any p (drop i xs) ≡ all → true ≡ all
any_here p xs i x all lt is told so_far = sym (ap (λ b. b || list_any p (drop (i + 1) xs)) (ap p (sym is) ∙ told)) ∙ sym (at_drop_more (list_any p) xs i x lt) ∙ so_far

-- the same loop at its end
pub any_none : {A : Type 0} (p : A → Bool) (xs : List A) (i : ℕ) (all : Bool) → length xs ≤ i → list_any p (drop i xs) ≡ all → false ≡ all
any_none p xs i all past so_far = ap (list_any p) (sym (drop_all i xs past)) ∙ so_far
