-- Time scales of directives, one after another.
use Rattle.std.proofs.Common.{◌≡◌, ℕ, zero, suc, ◌+◌, ◌<◌, ◌≤◌, Bool, true, false, ◌||◌, List, [], ◌∷◌, ◌++◌, Some, None, length, take, get_or, refl, ap, sym, ◌∙◌, arith}
use Rattle.std.specs.List.{list_any, flat_map}
use Rattle.std.proofs.lemmas.List.{take_all}
use Rattle.std.proofs.lemmas.List.Folds.{list_any-append}
use Rattle.std.proofs.lemmas.Option.{none-some, same_Some}
use Rattle.vs_design.specs.declared.timescale.Timescale.{Timescale}
use Rattle.vs_design.specs.declared.timescale.TheConstants.{DEFAULT_TIMESCALE}
use Rattle.vs_elab_statements.specs.vs_scopes.proofs.Folds.{flat_more}
use Rattle.std.proofs.lemmas.Bool.{or_from as both_false, or_left as left_true, or_right as right_true}
use Rattle.vs_elaborate.specs.Timescales.{first_or_default}
use Rattle.vs_elaborate.specs.passes.Scales.{first_of}
use Rattle.vs_design.specs.vs_logic4.proofs.Basics.{any_front as any_first}

-- ---- the first of several lists

front_none : {A : Type 0} (xs ys : List A) → xs ++ ys ≡ [] → xs ≡ []
front_none [] ys h = refl
front_none (x ∷ xs) ys h = cc

rest_none : {A : Type 0} (xs ys : List A) → xs ++ ys ≡ [] → ys ≡ []
rest_none [] ys h = h
rest_none (x ∷ xs) ys h = cc

first_front : {A : Type 0} (xs ys : List A) (y : A) → first_of xs ≡ Some y → first_of (xs ++ ys) ≡ Some y
first_front [] ys y h = absurd (none-some y h)
first_front (x ∷ xs) ys y h = h

-- what the first list that isn't empty begins with
pub first_found : {A B : Type 0} (f : A → List B) (xs : List A) (i : ℕ) (x : A) (y : B) → i < length xs → x ≡ get_or xs i x → flat_map f (take i xs) ≡ [] → first_of (f x) ≡ Some y → first_of (flat_map f xs) ≡ Some y
first_found f [] i x y h k n e = absurd (omega arith)
first_found f (z ∷ zs) zero x y h k n e = first_front (f z) (flat_map f zs) y (ap (λ w. first_of (f w)) (sym k) ∙ e)
first_found f (z ∷ zs) (suc i) x y h k n e =
    ap (λ w. first_of (w ++ flat_map f zs)) (front_none (f z) (flat_map f (take i zs)) n) ∙ first_found f zs i x y (omega arith) k (rest_none (f z) (flat_map f (take i zs)) n) e

-- lists that are empty
pub none_more : {A B : Type 0} (f : A → List B) (xs : List A) (i : ℕ) (x : A) → i < length xs → x ≡ get_or xs i x → flat_map f (take i xs) ≡ [] → f x ≡ [] → flat_map f (take (i + 1) xs) ≡ []
none_more f xs i x h k n e = flat_more f xs i x h k ∙ ap (λ z. z ++ f x) n ∙ e

pub none_all : {A B : Type 0} (f : A → List B) (xs : List A) (i : ℕ) → length xs ≤ i → flat_map f (take i xs) ≡ [] → flat_map f xs ≡ []
none_all f xs i h n = sym (ap (flat_map f) (take_all i xs h)) ∙ n

pub first_none : {A : Type 0} (xs : List A) → first_of xs ≡ None → xs ≡ []
first_none [] h = refl
first_none (x ∷ xs) h = absurd (none-some x (sym h))

-- the first of time scales before others
pub first_scale : (xs ys : List Timescale) (s : Timescale) → first_of xs ≡ Some s → s ≡ first_or_default (xs ++ ys)
first_scale [] ys s h = absurd (none-some s h)
first_scale (x ∷ xs) ys s h = sym (same_Some x s h)

-- the first of time scales behind none
pub later_scale : (xs ys : List Timescale) (s : Timescale) → xs ≡ [] → first_of ys ≡ Some s → s ≡ first_or_default (xs ++ ys)
later_scale xs [] s n h = absurd (none-some s h)
later_scale xs (y ∷ ys) s n h = sym (same_Some y s h) ∙ ap (λ z. first_or_default (z ++ y ∷ ys)) (sym n)

-- no time scale
pub no_scale : (xs ys : List Timescale) → xs ≡ [] → first_of ys ≡ None → DEFAULT_TIMESCALE ≡ first_or_default (xs ++ ys)
no_scale xs ys n h = sym (ap (λ z. first_or_default (z ++ ys)) n ∙ ap first_or_default (first_none ys h))

-- ---- a test of several lists

module _ {A B : Type 0} (p : B → Bool) (f : A → List B) where
  pub any_flat : (xs : List A) (i : ℕ) (x : A) → i < length xs → x ≡ get_or xs i x → list_any p (f x) ≡ true → list_any p (flat_map f xs) ≡ true
  any_flat [] i x h k e = absurd (omega arith)
  any_flat (z ∷ zs) zero x h k e = list_any-append p (f z) (flat_map f zs) ∙ left_true (list_any p (f z)) _ (ap (λ w. list_any p (f w)) (sym k) ∙ e)
  any_flat (z ∷ zs) (suc i) x h k e = list_any-append p (f z) (flat_map f zs) ∙ right_true (list_any p (f z)) _ (any_flat zs i x (omega arith) k e)

  pub any_flat_more : (xs : List A) (i : ℕ) (x : A) → i < length xs → x ≡ get_or xs i x → list_any p (flat_map f (take i xs)) ≡ false → list_any p (f x) ≡ false → list_any p (flat_map f (take (i + 1) xs)) ≡ false
  any_flat_more xs i x h k n e = ap (list_any p) (flat_more f xs i x h k) ∙ list_any-append p (flat_map f (take i xs)) (f x) ∙ both_false _ _ n e

  pub any_flat_all : (xs : List A) (i : ℕ) → length xs ≤ i → list_any p (flat_map f (take i xs)) ≡ false → list_any p (flat_map f xs) ≡ false
  any_flat_all xs i h n = sym (ap (λ z. list_any p (flat_map f z)) (take_all i xs h)) ∙ n

pub any_second : {B : Type 0} (p : B → Bool) (xs ys : List B) (b : Bool) → list_any p xs ≡ false → b ≡ list_any p ys → b ≡ list_any p (xs ++ ys)
any_second p xs ys b n h = h ∙ sym (list_any-append p xs ys ∙ ap (λ z. z || list_any p ys) n)
