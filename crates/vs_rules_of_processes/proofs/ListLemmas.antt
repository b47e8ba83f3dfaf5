-- Lists that are put at an end, and what all elements of one do.
use Rattle.std.proofs.Common.{◌≡◌, ℕ, ◌+◌, ◌<◌, ◌≤◌, ◌⊎◌, ◌↔◌, inl, inr, true, false, IsTrue, Some, List, [], ◌∷◌, ◌++◌, length, map, get_or, slice_get, refl, sym, ◌∙◌, ap, subst, arith}
use Rattle.std.specs.List.{Contains}
use Rattle.std.proofs.lemmas.Bool.{false≢true}
use Rattle.std.proofs.lemmas.List.Elements.{Contains-append_left, Contains-append_right, Contains-append_cases}
use Rattle.std.proofs.lemmas.Option.{same_Some, slice_get-get_or}
use Rattle.vs_drivers.specs.vs_maps.proofs.RangeLemmas.{later_in, in_either}
use Rattle.vs_design.specs.vs_logic4.proofs.Basics.{below_or}
use Rattle.vs_graph.proofs.RowLemmas.{head_in as first_in}

-- what is put at a list's end, one image for each element
in_map : {A : Type 0} (f : A → ℕ) (ys : List A) (v : ℕ) → Contains (map f ys) v → (y : A) × Contains ys y × (f y ≡ v)
in_map f [] v h = absurd (omega (arith, h.1))
in_map f (y ∷ ys) v h = elim (in_either (f y) (map f ys) v h) [
  | inl e ↦ (y, first_in y ys, e)
  | inr l ↦ let z = in_map f ys v l in (z.0, later_in y ys z.0 z.1, z.2)
]

to_map : {A : Type 0} (f : A → ℕ) (ys : List A) (y : A) → Contains ys y → Contains (map f ys) (f y)
to_map f [] y h = absurd (omega (arith, h.1))
to_map {A} f (x ∷ xs) y h = elim (in_either x xs y h) [
  | inl e ↦ subst (λ (z : A). Contains (f x ∷ map f xs) (f z)) e (first_in (f x) (map f xs))
  | inr l ↦ later_in (f x) (map f xs) (f y) (to_map f xs y l)
]

pub put_images : {A : Type 0} (f : A → ℕ) (old new : List ℕ) (ys : List A) (H : ℕ → Type 0) → new ≡ old ++ map f ys → ((y : A) → Contains ys y → H (f y)) →
    ((v : ℕ) → H v → (y : A) × Contains ys y × (f y ≡ v)) → (v : ℕ) → (Contains new v ↔ (Contains old v ⊎ H v))
put_images f old new ys H e on back v = (there, here) where
  there : Contains new v → Contains old v ⊎ H v
  there h = elim (Contains-append_cases old (map f ys) v (subst (λ (l : List ℕ). Contains l v) e h)) [
    | inl a ↦ inl a
    | inr b ↦ let y = in_map f ys v b in inr (subst H y.2 (on y.0 y.1))
  ]

  here : Contains old v ⊎ H v → Contains new v
  here (inl a) = subst (λ (l : List ℕ). Contains l v) (sym e) (Contains-append_left old (map f ys) v a)
  here (inr h) =
      let y = back v h in
      subst (λ (l : List ℕ). Contains l v) (sym e) (Contains-append_right old (map f ys) v (subst (Contains (map f ys)) y.2 (to_map f ys y.0 y.1)))

-- the same of an empty list
pub images_are : {A : Type 0} (f : A → ℕ) (old new : List ℕ) (ys : List A) (H : ℕ → Type 0) → old ≡ [] → new ≡ old ++ map f ys → ((y : A) → Contains ys y → H (f y)) →
    ((v : ℕ) → H v → (y : A) × Contains ys y × (f y ≡ v)) → (v : ℕ) → (Contains new v ↔ H v)
images_are f old new ys H empty e on back v =
    let b = put_images f old new ys H e on back v in
    (λ h. elim (b.0 h) [ inl a ↦ absurd (none_in v (subst (λ (l : List ℕ). Contains l v) empty a)) | inr y ↦ y ], λ y. b.1 (inr y)) where
      none_in : (v : ℕ) → Contains [] v → ⊥
      none_in v h = omega (arith, h.1)

-- a list is put
pub list_put : (old new more : List ℕ) → new ≡ old ++ more → (v : ℕ) → (Contains new v ↔ (Contains old v ⊎ Contains more v))
list_put old new more e v = (λ h. Contains-append_cases old more v (subst (λ (l : List ℕ). Contains l v) e h), back) where
  back : Contains old v ⊎ Contains more v → Contains new v
  back (inl a) = subst (λ (l : List ℕ). Contains l v) (sym e) (Contains-append_left old more v a)
  back (inr b) = subst (λ (l : List ℕ). Contains l v) (sym e) (Contains-append_right old more v b)

-- one number is put
pub one_put : (old new : List ℕ) (i : ℕ) (P : Type 0) → new ≡ old ++ i ∷ [] → P → (v : ℕ) → (Contains new v ↔ (Contains old v ⊎ (P × (i ≡ v))))
one_put old new i P e p = put_images (λ (n : ℕ). n) old new (i ∷ []) (λ (v : ℕ). P × (i ≡ v)) e
    (λ y h. elim (in_either i [] y h) [ inl s ↦ (p, s) | inr l ↦ absurd (omega (arith, l.1)) ])
    (λ v h. (i, first_in i [], h.1))

-- ---- loops

-- what holds of the first elements of a list
abbrev pub Before : {A : Type 0} → (A → Type 0) → List A → ℕ → Type 0
Before {A} P xs i = (k : ℕ) (x : A) → k < i → slice_get xs k ≡ Some x → P x

pub one_more : {A : Type 0} (P : A → Type 0) (xs : List A) (i : ℕ) (d : A) → i < length xs → Before P xs i → P (get_or xs i d) → Before P xs (i + 1)
one_more P xs i d within before here k x h e = elim (below_or k i h) [
  | inl l ↦ before k x l e
  | inr s ↦ subst P (same_Some (get_or xs i d) x (sym (slice_get-get_or xs i d within) ∙ sym (ap (slice_get xs) s) ∙ e)) here
]

-- all elements have been gone through
pub all_in : {A : Type 0} (P : A → Type 0) (xs : List A) (i : ℕ) → length xs ≤ i → Before P xs i → (x : A) → Contains xs x → P x
all_in P xs i past before x c = before c.0 x (omega (arith, past, c.1)) (slice_get-get_or xs c.0 x c.1 ∙ ap Some c.2)

pub found_one : {A : Type 0} (P : A → Type 0) (xs : List A) (i : ℕ) (d : A) → i < length xs → P (get_or xs i d) → (IsTrue true ↔ ((x : A) × Contains xs x × P x))
found_one P xs i d within h = (λ t. (get_or xs i d, (i, within, same_Some (get_or xs i (get_or xs i d)) (get_or xs i d) (sym (slice_get-get_or xs i (get_or xs i d) within) ∙ slice_get-get_or xs i d within)), h), λ y. refl)

pub none_found : {A : Type 0} (P : A → Type 0) (xs : List A) (i : ℕ) → length xs ≤ i → Before (λ x. P x → ⊥) xs i → (IsTrue false ↔ ((x : A) × Contains xs x × P x))
none_found P xs i past before = (λ t. absurd (false≢true t), λ y. absurd (all_in (λ x. P x → ⊥) xs i past before y.0 y.1 y.2))
