-- Pairs of terms, and lists element by element.
use Rattle.std.proofs.Common.{◌≡◌, ℕ, ◌+◌, ◌<◌, ◌≤◌, ◌↔◌, inl, inr, Bool, true, false, IsTrue, Some, List, [], ◌∷◌, length, get_or, slice_get, refl, sym, ◌∙◌, ap, subst, arith}
use Rattle.std.specs.List.{Contains}
use Rattle.std.proofs.lemmas.Bool.{false≢true}
use Rattle.std.proofs.lemmas.List.Elements.{Contains-get_or}
use Rattle.std.proofs.lemmas.Option.{same_Some, slice_get_within, slice_get-get_or}
use Rattle.vs_design.specs.vs_logic4.proofs.Basics.{below_or}

-- what holds of the first elements of a list
abbrev pub Before : {A : Type 0} → (A → Type 0) → List A → ℕ → Type 0
Before {A} P xs i = (k : ℕ) (x : A) → k < i → slice_get xs k ≡ Some x → P x

pub none_yet : {A : Type 0} (P : A → Type 0) (xs : List A) → Before P xs 0
none_yet P xs k x h e = absurd (omega (arith, h))

pub one_more : {A : Type 0} (P : A → Type 0) (xs : List A) (i : ℕ) (d : A) → i < length xs → Before P xs i → P (get_or xs i d) → Before P xs (i + 1)
one_more P xs i d within before here k x h e = elim (below_or k i h) [
  | inl l ↦ before k x l e
  | inr s ↦ subst P (same_Some (get_or xs i d) x (sym (slice_get-get_or xs i d within) ∙ sym (ap (slice_get xs) s) ∙ e)) here
]

-- all elements keep it
pub all_keep_it : {A : Type 0} (P : A → Type 0) (xs : List A) (i : ℕ) → length xs ≤ i → Before P xs i → (IsTrue true ↔ ((k : ℕ) (x : A) → slice_get xs k ≡ Some x → P x))
all_keep_it P xs i past before = (λ t k x e. before k x (omega (arith, past, slice_get_within xs k x e)) e, λ f. refl)

-- past the end there is none that doesn't
pub none_past : {A : Type 0} (P : A → Type 0) (xs : List A) (i : ℕ) → length xs ≤ i → (IsTrue true ↔ ((x : A) → slice_get xs i ≡ Some x → P x))
none_past P xs i past = (λ t x e. absurd (omega (arith, past, slice_get_within xs i x e)), λ f. refl)

-- one doesn't
pub one_breaks : {A : Type 0} (P : A → Type 0) (xs : List A) (i : ℕ) (d : A) → i < length xs → (P (get_or xs i d) → IsTrue false) →
    (IsTrue false ↔ ((k : ℕ) (x : A) → slice_get xs k ≡ Some x → P x))
one_breaks P xs i d within breaks = (λ t. absurd (false≢true t), λ f. breaks (f i (get_or xs i d) (slice_get-get_or xs i d within)))

-- elements by their places
pub by_places : {A : Type 0} (P : A → Type 0) (xs : List A) → (((k : ℕ) (x : A) → slice_get xs k ≡ Some x → P x) ↔ ((x : A) → Contains xs x → P x))
by_places P xs = (
  λ f x c. f c.0 x (slice_get-get_or xs c.0 x c.1 ∙ ap Some c.2),
  λ f k x e. f x (k, slice_get_within xs k x e, same_Some (get_or xs k x) x (sym (slice_get-get_or xs k x (slice_get_within xs k x e)) ∙ e)),
)

pub decided : (b : Bool) (P Q : Type 0) → (IsTrue b ↔ P) → (P ↔ Q) → (IsTrue b ↔ Q)
decided b P Q e f = (λ h. f.0 (e.0 h), λ q. e.1 (f.1 q))

-- an element at a place, as it is read
pub at_place : {A : Type 0} (P : A → Type 0) (xs : List A) (i : ℕ) (d x : A) → i < length xs → slice_get xs i ≡ Some x → P (get_or xs i d) → P x
at_place P xs i d x within e p = subst P (same_Some (get_or xs i d) x (sym (slice_get-get_or xs i d within) ∙ e)) p

-- the same of what a list has
pub all_in : {A : Type 0} (P : A → Type 0) (xs : List A) (i : ℕ) → length xs ≤ i → Before P xs i → (IsTrue true ↔ ((x : A) → Contains xs x → P x))
all_in P xs i past before = let e = all_keep_it P xs i past before in let f = by_places P xs in (λ t. f.0 (e.0 t), λ q. e.1 (f.1 q))

pub one_out : {A : Type 0} (P : A → Type 0) (xs : List A) (i : ℕ) (d : A) → i < length xs → (P (get_or xs i d) → IsTrue false) → (IsTrue false ↔ ((x : A) → Contains xs x → P x))
one_out P xs i d within breaks = let e = one_breaks P xs i d within breaks in let f = by_places P xs in (λ t. f.0 (e.0 t), λ q. e.1 (f.1 q))

pub in_only : {A : Type 0} (x : A) → Contains (x ∷ []) x
in_only x = (0, omega arith, refl)

-- an element at a place is the one that is read there
pub here_only : {A : Type 0} (P : A → Type 0) (xs : List A) (i : ℕ) (d : A) (b : Bool) → i < length xs → (IsTrue b ↔ P (get_or xs i d)) → (IsTrue b ↔ ((x : A) → slice_get xs i ≡ Some x → P x))
here_only P xs i d b within e = (λ t x is. at_place P xs i d x within is (e.0 t), λ h. e.1 (h (get_or xs i d) (slice_get-get_or xs i d within)))

pub found_one : {A : Type 0} (P : A → Type 0) (xs : List A) (i : ℕ) (d : A) → i < length xs → P (get_or xs i d) → (IsTrue true ↔ ((x : A) × Contains xs x × P x))
found_one P xs i d within h = (λ t. (get_or xs i d, Contains-get_or xs i d within, h), λ y. refl)

pub none_found : {A : Type 0} (P : A → Type 0) (xs : List A) (i : ℕ) → length xs ≤ i → Before (λ x. P x → ⊥) xs i → (IsTrue false ↔ ((x : A) × Contains xs x × P x))
none_found P xs i past before = (
  λ t. absurd (false≢true t),
  λ y. let c = y.1 in absurd (before c.0 y.0 (omega (arith, past, c.1)) (slice_get-get_or xs c.0 y.0 c.1 ∙ ap Some c.2) y.2),
)
