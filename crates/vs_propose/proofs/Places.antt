-- Names and their places in lists.
use Rattle.std.proofs.Common.{◌≡◌, ℕ, zero, suc, ◌<◌, ◌≤◌, ◌⊎◌, inl, inr, Bool, true, false, if◌then◌else◌, Some, List, [], ◌∷◌, length, map, get_or, slice_get, true≢false, refl, sym, ◌∙◌, ap, arith}
use Rattle.std.specs.Cmp.{IsEquivalence}
use Rattle.std.specs.List.{Contains, IsDistinct}
use Rattle.std.specs.Str.{bytes_eq}
use Rattle.std.proofs.lemmas.Bool.{cases_eq}
use Rattle.std.proofs.lemmas.Map.Keys.{apart_from_distinct, IsDistinct-from_apart}
use Rattle.std.proofs.lemmas.Map.Made.{length-le_from_is_member, is_member-Decides}
use Rattle.std.proofs.lemmas.Option.{same_Some, slice_get_within, get_or_from_slice_get, slice_get-get_or}
use Rattle.std.proofs.lemmas.Slice.Eq.{bytes_eq-Decides}
use Rattle.vs_drivers.specs.vs_rules.specs.Claims.{Name, times_in, place_of}

-- ---- places of lists

pub contains_at : {A : Type 0} (xs : List A) (i : ℕ) (x : A) → slice_get xs i ≡ Some x → Contains xs x
contains_at xs i x is = (i, slice_get_within xs i x is, get_or_from_slice_get xs i x x is)

pub at_contains : {A : Type 0} (xs : List A) (x : A) → Contains xs x → (i : ℕ) × (slice_get xs i ≡ Some x)
at_contains xs x (i, within, is) = (i, slice_get-get_or xs i x within ∙ ap (λ y. Some y) is)

pub mapped_back : {A B : Type 0} (f : A → B) (xs : List A) (i : ℕ) (y : B) → slice_get (map f xs) i ≡ Some y → (x : A) × (slice_get xs i ≡ Some x) × (f x ≡ y)
mapped_back f [] i y h = absurd (cc)
mapped_back f (x ∷ xs) zero y h = (x, refl, same_Some (f x) y h)
mapped_back f (x ∷ xs) (suc i) y h = mapped_back f xs i y h

-- whether a list has a number
pub has_or : (xs : List ℕ) (x : ℕ) → Contains xs x ⊎ (Contains xs x → ⊥)
has_or [] x = inr (λ h. omega (arith, h.1))
has_or (y ∷ ys) x = elim (cases_eq y x) [
  | inl e ↦ inl (0, omega arith, e)
  | inr ne ↦ elim (has_or ys x) [
    | inl h ↦ inl (suc h.0, omega (arith, h.1), h.2)
    | inr out ↦ inr (λ h. split ne out h)
  ]
] where
  split : (y ≡ x → ⊥) → (Contains ys x → ⊥) → Contains (y ∷ ys) x → ⊥
  split ne out (zero, l, e) = ne e
  split ne out (suc n, l, e) = out (n, omega (arith, l), e)

-- ---- how often a name stands in a list, and where

same_name : (n name : Name) → bytes_eq n name ≡ true → n ≡ name
same_name n name e = (bytes_eq-Decides n name).0 e

name_same : (n name : Name) → n ≡ name → bytes_eq n name ≡ true
name_same n name e = (bytes_eq-Decides n name).1 e

-- the place of a name is the only one that it has
pub record IsOnly (xs : List Name) (name : Name) (i : ℕ) : Type 0 where
  pub is : slice_get xs i ≡ Some name
  pub only : (j : ℕ) → slice_get xs j ≡ Some name → j ≡ i

pub times_none : (xs : List Name) (name : Name) → ((j : ℕ) → slice_get xs j ≡ Some name → ⊥) → times_in name xs ≡ 0
times_none [] name h = refl
times_none (n ∷ ns) name h = step (bytes_eq n name) refl (times_none ns name (λ j e. h (suc j) e)) where
  step : (b : Bool) → bytes_eq n name ≡ b → times_in name ns ≡ 0 → (if b then suc (times_in name ns) else times_in name ns) ≡ 0
  step true e z = absurd (h 0 (ap (λ x. Some x) (same_name n name e)))
  step false e z = z

pub times_one : (xs : List Name) (name : Name) (i : ℕ) → IsOnly xs name i → times_in name xs ≡ 1
times_one [] name i o = absurd (let e = o.is in cc)
times_one (n ∷ ns) name zero o =
    ap (λ (b : Bool). if b then suc (times_in name ns) else times_in name ns) (name_same n name (same_Some n name o.is))
    ∙ ap suc (times_none ns name (λ j e. omega (arith, o.only (suc j) e)))
times_one (n ∷ ns) name (suc i) o =
    step (bytes_eq n name) refl (times_one ns name i (record { is = o.is; only = λ j e. omega (arith, o.only (suc j) e) })) where
      step : (b : Bool) → bytes_eq n name ≡ b → times_in name ns ≡ 1 → (if b then suc (times_in name ns) else times_in name ns) ≡ 1
      step true e z = absurd (omega (arith, o.only 0 (ap (λ x. Some x) (same_name n name e))))
      step false e z = z

pub place_at : (xs : List Name) (name : Name) (i : ℕ) → IsOnly xs name i → place_of name xs ≡ i
place_at [] name i o = absurd (let e = o.is in cc)
place_at (n ∷ ns) name zero o = ap (λ (b : Bool). if b then 0 else suc (place_of name ns)) (name_same n name (same_Some n name o.is))
place_at (n ∷ ns) name (suc i) o =
    step (bytes_eq n name) refl (place_at ns name i (record { is = o.is; only = λ j e. omega (arith, o.only (suc j) e) })) where
      step : (b : Bool) → bytes_eq n name ≡ b → place_of name ns ≡ i → (if b then 0 else suc (place_of name ns)) ≡ suc i
      step true e z = absurd (omega (arith, o.only 0 (ap (λ x. Some x) (same_name n name e))))
      step false e z = ap suc z

pub there : (xs : List Name) (name : Name) → times_in name xs ≡ 1 → (i : ℕ) × (slice_get xs i ≡ Some name)
there [] name h = absurd (omega (arith, h))
there (n ∷ ns) name h = step (bytes_eq n name) refl h (λ z. there ns name z) where
  step : (b : Bool) → bytes_eq n name ≡ b → (if b then suc (times_in name ns) else times_in name ns) ≡ 1 →
      (times_in name ns ≡ 1 → (i : ℕ) × (slice_get ns i ≡ Some name)) → (i : ℕ) × (slice_get (n ∷ ns) i ≡ Some name)
  step true e z rest = (0, ap (λ x. Some x) (same_name n name e))
  step false e z rest = let r = rest z in (suc r.0, r.1)

-- ---- names that differ

either_way : (i j : ℕ) → (i ≡ j → ⊥) → (i < j) ⊎ (j < i)
either_way i j ne = grind (arith, ne)

not_itself : (name : Name) → bytes_eq name name ≡ false → ⊥
not_itself name h = true≢false (sym (name_same name name refl) ∙ h)

apart : (ns : List Name) (i j : ℕ) (name : Name) → IsDistinct bytes_eq ns → i < j → slice_get ns i ≡ Some name → slice_get ns j ≡ Some name → ⊥
apart ns i j name h below a b =
    let e : bytes_eq (get_or ns i name) (get_or ns j name) ≡ false = apart_from_distinct bytes_eq ns i j name h below (slice_get_within ns j name b) in
    not_itself name (ap (λ (x : Name). bytes_eq x name) (sym (get_or_from_slice_get ns i name name a))
    ∙ ap (λ (x : Name). bytes_eq (get_or ns i name) x) (sym (get_or_from_slice_get ns j name name b)) ∙ e)

pub distinct : (ns : List Name) (i j : ℕ) (name : Name) → IsDistinct bytes_eq ns → slice_get ns i ≡ Some name → slice_get ns j ≡ Some name → i ≡ j
distinct ns i j name h a b = elim (cases_eq i j) [
  | inl e ↦ e
  | inr ne ↦ elim (either_way i j ne) [ inl below ↦ absurd (apart ns i j name h below a b) | inr above ↦ absurd (apart ns j i name h above b a) ]
]

pub differ : (ns : List Name) → ((i j : ℕ) (name : Name) → slice_get ns i ≡ Some name → slice_get ns j ≡ Some name → i ≡ j) → IsDistinct bytes_eq ns
differ ns one = IsDistinct-from_apart bytes_eq ns (λ i j d below within. step i j d below within (bytes_eq (get_or ns i d) (get_or ns j d)) refl) where
  step : (i j : ℕ) (d : Name) → i < j → j < length ns → (b : Bool) → bytes_eq (get_or ns i d) (get_or ns j d) ≡ b → b ≡ false
  step i j d below within true e =
      let a : slice_get ns i ≡ Some (get_or ns j d) = slice_get-get_or ns i d (omega (arith, below, within)) ∙ ap (λ x. Some x) (same_name (get_or ns i d) (get_or ns j d) e) in
      absurd (omega (arith, below, one i j (get_or ns j d) a (slice_get-get_or ns j d within)))
  step i j d below within false e = refl

same_bytes : IsEquivalence bytes_eq
same_bytes = record {
  refl = λ x. name_same x x refl;
  symm = λ x y. both x y (bytes_eq x y) refl;
  congr = λ x y z e. ap (λ (n : Name). bytes_eq n z) (same_name x y e);
} where
  both : (x y : Name) (b : Bool) → bytes_eq x y ≡ b → bytes_eq x y ≡ bytes_eq y x
  both x y true e = e ∙ sym (name_same y x (sym (same_name x y e)))
  both x y false e = e ∙ sym (other x y e (bytes_eq y x) refl) where
    other : (x y : Name) → bytes_eq x y ≡ false → (b : Bool) → bytes_eq y x ≡ b → b ≡ false
    other x y e true f = absurd (true≢false (sym (name_same x y (sym (same_name y x f))) ∙ e))
    other x y e false f = refl

-- names that differ are no more than those of a list that has each of them
pub no_more : (xs ys : List Name) → IsDistinct bytes_eq xs → ((i : ℕ) (name : Name) → slice_get xs i ≡ Some name → (j : ℕ) × (slice_get ys j ≡ Some name)) → length xs ≤ length ys
no_more xs ys h has = length-le_from_is_member same_bytes xs ys h (λ q m.
    let p = at_contains xs q ((is_member-Decides bytes_eq-Decides xs q).0 m) in
    let r = has p.0 q p.1 in
    (is_member-Decides bytes_eq-Decides ys q).1 (contains_at ys r.0 q r.1))
