-- Lists, and functions that are changed at one number.
use Rattle.std.proofs.Common.{◌≡◌, ℕ, Bool, true, false, ◌||◌, cond, eqb, Some, List, [], ◌∷◌, filter, slice_get, refl, sym, ◌∙◌, ap, subst, inl, inr, eq-eqb, eqb-true}
use Rattle.std.specs.List.{list_any, Contains}
use Rattle.std.proofs.lemmas.Option.{slice_get_within, get_or_from_slice_get, slice_get-get_or}
use Rattle.std.proofs.lemmas.Bool.{cond-true, cond_both, eqb-false, cases_Bool, or_parts}
use Rattle.vs_design.specs.vs_logic4.proofs.Basics.{filter_some}

-- an element by its place
pub contains_at : {A : Type 0} (xs : List A) (i : ℕ) (x : A) → slice_get xs i ≡ Some x → Contains xs x
contains_at xs i x is = (i, slice_get_within xs i x is, get_or_from_slice_get xs i x x is)

pub place_of : {A : Type 0} (xs : List A) (x : A) → Contains xs x → (i : ℕ) × (slice_get xs i ≡ Some x)
place_of xs x (i, within, is) = (i, slice_get-get_or xs i x within ∙ ap (λ y. Some y) is)

-- a function that is changed at one number
abbrev pub at : {A : Type 0} → (ℕ → A) → ℕ → A → ℕ → A
at f i x j = cond (eqb j i) x (f j)

pub at_same : {A : Type 0} (f : ℕ → A) (i : ℕ) (x : A) → at f i x i ≡ x
at_same f i x = cond-true (eqb i i) x (f i) (eq-eqb i i refl)

pub at_each : {A : Type 0} (P : ℕ → A → Type 0) (f : ℕ → A) (i : ℕ) (x : A) → P i x → ((j : ℕ) → (j ≡ i → ⊥) → P j (f j)) → (j : ℕ) → P j (at f i x j)
at_each P f i x p q j =
    cond_both (eqb j i) x (f j) (λ t. P j t) (λ e. subst (λ k. P k x) (sym (eqb-true j i e)) p) (λ e. q j (eqb-false j i e))

-- what one of them has, one of them has behind a change that keeps it
pub at_some : {A : Type 0} (P : A → Type 0) (f : ℕ → A) (i : ℕ) (x : A) → (P (f i) → P x) → (j : ℕ) × P (f j) → (j : ℕ) × P (at f i x j)
at_some P f i x keeps (j, p) = (j, at_each (λ k t. P (f k) → P t) f i x keeps (λ k ne h. h) j p)

pub filter_none : {A : Type 0} (p : A → Bool) (xs : List A) → list_any p xs ≡ false → filter p xs ≡ []
filter_none p [] h = refl
filter_none p (x ∷ xs) h =
    let parts = or_parts (p x) (list_any p xs) h in
    ap (λ b. cond b (x ∷ filter p xs) (filter p xs)) parts.0 ∙ filter_none p xs parts.1

-- two functions that are changed alike
pub at_both : {A B : Type 0} (P : ℕ → A → B → Type 0) (f : ℕ → A) (g : ℕ → B) (i : ℕ) (x : A) (y : B) → P i x y → ((j : ℕ) → (j ≡ i → ⊥) → P j (f j) (g j)) → (j : ℕ) → P j (at f i x j) (at g i y j)
at_both P f g i x y p q j = by_test (eqb j i) refl
  where
    by_test : (t : Bool) → eqb j i ≡ t → P j (cond t x (f j)) (cond t y (g j))
    by_test true e = subst (λ k. P k x y) (sym (eqb-true j i e)) p
    by_test false e = q j (eqb-false j i e)
