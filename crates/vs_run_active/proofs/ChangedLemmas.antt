-- Lists of which one element is changed.
use Rattle.std.proofs.Common.{◌≡◌, ℕ, zero, suc, ◌<◌, ◌≤◌, Bool, true, false, Some, List, [], ◌∷◌, ◌++◌, length, get_or, slice_get, slice_set, refl, sym, ◌∙◌, ap, arith}
use Rattle.std.proofs.lemmas.Bool.{false≢true}
use Rattle.std.proofs.lemmas.Option.{slice_get_read}
use Rattle.vs_design.specs.Stores.{changed_at}

-- an element behind a front
pub changed_behind : {A : Type 0} (f : A → A) (front : List A) (x : A) (xs : List A) (n : ℕ) → n ≡ length front → changed_at f n (front ++ x ∷ xs) ≡ front ++ f x ∷ xs
changed_behind f [] x xs zero h = refl
changed_behind f [] x xs (suc n) h = cc
changed_behind f (y ∷ ys) x xs zero h = cc
changed_behind f (y ∷ ys) x xs (suc n) h = ap (λ l. y ∷ l) (changed_behind f ys x xs n (omega arith))

-- an element that is found
pub changed_there : {A : Type 0} (f : A → A) (xs : List A) (i : ℕ) (x y : A) → slice_get xs i ≡ Some x → y ≡ f x → slice_set xs i y ≡ changed_at f i xs
changed_there f [] i x y here is = cc
changed_there f (z ∷ zs) zero x y here is = let e : z ≡ x = cc in ap (λ v. v ∷ zs) (is ∙ ap f (sym e))
changed_there f (z ∷ zs) (suc i) x y here is = ap (λ l. z ∷ l) (changed_there f zs i x y here is)

-- none past the end
pub changed_past : {A : Type 0} (f : A → A) (xs : List A) (i : ℕ) → length xs ≤ i → xs ≡ changed_at f i xs
changed_past f [] i h = refl
changed_past f (z ∷ zs) zero h = absurd (omega arith)
changed_past f (z ∷ zs) (suc i) h = ap (λ l. z ∷ l) (changed_past f zs i (omega arith))

-- ---- the elements that a type keeps, as a contract sees them

-- one is read and changed
pub changed_read : {A : Type 0} (f : A → A) (xs ys : List A) (n i : ℕ) (x y : A) → xs ≡ ys → n ≡ length xs → i < n → x ≡ get_or xs i x → y ≡ f x → slice_set xs i y ≡ changed_at f i ys
changed_read f xs ys n i x y same size within read is = changed_there f xs i x y (slice_get_read xs n i x size within read) is ∙ ap (changed_at f i) same

-- none is found
pub changed_missing : {A : Type 0} (f : A → A) (xs ys : List A) (n i : ℕ) (found : Bool) → xs ≡ ys → n ≡ length xs → (i < n → found ≡ true) → found ≡ false → xs ≡ changed_at f i ys
changed_missing f xs ys n i found same size all none =
    let outside : i < n → ⊥ = λ h. false≢true (sym none ∙ all h) in
    changed_past f xs i (omega (arith, size, outside)) ∙ ap (changed_at f i) same
