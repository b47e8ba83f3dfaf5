-- Names in ascending order: what a sort and a search by halves say of them.
use Rattle.std.proofs.Common.{◌≡◌, ℕ, ◌<◌, ◌≤◌, Bool, true, false, not, Option, Some, List, [], ◌∷◌, length, get_or, refl, sym, ◌∙◌, ap}
use Rattle.std.specs.Cmp.{IsStrictWeakOrder, Some-then}
use Rattle.std.specs.Cmp.Lexicographic.{slice_cmp, slice_partial_cmp}
use Rattle.std.specs.List.Sorted.{IsPartitionedBy, IsSorted}
use Rattle.std.specs.Ordering.{nat_cmp, ordering_then, partial_ordering_then, ordering_reverse, is_some_and, is_lt, is_le, is_eq}
use Rattle.std.specs.declared.cmp.Ordering.{Ordering}
use Rattle.std.specs.declared.cmp.Ordering.TheVariants.{Less, Equal, Greater}
use Rattle.std.specs.Str.{bytes_eq}
use Rattle.std.proofs.lemmas.Cmp.{nat_list_cmp_total, nat_cmp_total, then_total, on_total}
use Rattle.std.proofs.lemmas.List.MinMax.{ranks_by}
use Rattle.std.proofs.lemmas.List.Sorted.{sorted_far}
use Rattle.std.proofs.lemmas.Map.Text.{is_eq-slice_cmp}
use Rattle.std.proofs.lemmas.Bool.{not-true}
use Rattle.vs_rules.specs.Claims.{Name}
use Rattle.vs_claims.specs.passes.Placed.{Placed, placed_cmp}

-- a name is below another
abbrev pub lt : Name → Name → Bool
lt a b = is_lt (slice_cmp nat_cmp a b)

names_rank : IsStrictWeakOrder lt
names_rank = ranks_by nat_list_cmp_total (λ (n : Name). n)

placed_rank : IsStrictWeakOrder (λ (x y : Placed). is_lt (placed_cmp x y))
placed_rank = ranks_by (then_total (on_total (λ (m : Placed). m.0.now) nat_list_cmp_total) (on_total (λ (m : Placed). m.1) nat_cmp_total)) (λ (m : Placed). m)

first_no : (a b : Ordering) → is_lt (ordering_then a b) ≡ false → is_lt a ≡ false
first_no Less b h = h
first_no Equal b h = refl
first_no Greater b h = refl

-- one that stands later isn't below one that stands earlier
pub later : (xs : List Placed) → IsSorted placed_cmp xs → (i j : ℕ) (d : Placed) → i ≤ j → j < length xs → is_lt (placed_cmp (get_or xs j d) (get_or xs i d)) ≡ false
later xs up i j d h l = sorted_far (λ (x y : Placed). is_lt (placed_cmp x y)) placed_rank xs up i j d h l

pub later_name : (xs : List Placed) → IsSorted placed_cmp xs → (i j : ℕ) (d : Placed) → i ≤ j → j < length xs → lt (get_or xs j d).0.now (get_or xs i d).0.now ≡ false
later_name xs up i j d h l = first_no _ _ (later xs up i j d h l)

-- not above is not below the other way round
turned : (a b : Ordering) → a ≡ ordering_reverse b → is_le a ≡ not (is_lt b)
turned a b e = ap is_le e ∙ by_cases b
  where
    by_cases : (b : Ordering) → is_le (ordering_reverse b) ≡ not (is_lt b)
    by_cases Less = refl
    by_cases Equal = refl
    by_cases Greater = refl

pub up_to_is : (a b : Name) → is_le (slice_cmp nat_cmp a b) ≡ not (lt b a)
up_to_is a b = turned _ _ (nat_list_cmp_total.antisymm a b)

pub parted_below : (xs : List Placed) → IsSorted placed_cmp xs → (name : Name) → IsPartitionedBy (λ (m : Placed). lt m.0.now name) xs
parted_below xs up name i j d h l passes = by_cases (lt (get_or xs i d).0.now name) refl
  where
    by_cases : (b : Bool) → lt (get_or xs i d).0.now name ≡ b → b ≡ true
    by_cases true e = refl
    by_cases false e = sym (names_rank.chain (get_or xs j d).0.now (get_or xs i d).0.now name (later_name xs up i j d h l) e) ∙ passes

pub parted_up_to : (xs : List Placed) → IsSorted placed_cmp xs → (name : Name) → IsPartitionedBy (λ (m : Placed). is_le (slice_cmp nat_cmp m.0.now name)) xs
parted_up_to xs up name i j d h l passes =
    let above = not-true _ (sym (up_to_is (get_or xs j d).0.now name) ∙ passes) in
    let below = names_rank.chain name (get_or xs j d).0.now (get_or xs i d).0.now above (later_name xs up i j d h l) in
    up_to_is (get_or xs i d).0.now name ∙ ap not below

-- ---- what a comparison of two names answers

partial_is : (a b : Name) → slice_partial_cmp (λ (x y : ℕ). Some (nat_cmp x y)) a b ≡ Some (slice_cmp nat_cmp a b)
partial_is [] [] = refl
partial_is [] (y ∷ ys) = refl
partial_is (x ∷ xs) [] = refl
partial_is (x ∷ xs) (y ∷ ys) = ap (λ (o : Option Ordering). partial_ordering_then (Some (nat_cmp x y)) o) (partial_is xs ys) ∙ Some-then (nat_cmp x y) (slice_cmp nat_cmp xs ys)

pub says_below : (a b : Name) (r : Bool) → r ≡ is_some_and is_lt (slice_partial_cmp (λ (x y : ℕ). Some (nat_cmp x y)) a b) → r ≡ lt a b
says_below a b r h = h ∙ ap (λ (o : Option Ordering). is_some_and is_lt o) (partial_is a b)

pub says_up_to : (a b : Name) (r : Bool) → r ≡ is_some_and is_le (slice_partial_cmp (λ (x y : ℕ). Some (nat_cmp x y)) a b) → r ≡ is_le (slice_cmp nat_cmp a b)
says_up_to a b r h = h ∙ ap (λ (o : Option Ordering). is_some_and is_le o) (partial_is a b)

-- ---- what can't be at once

eq_no : (o : Ordering) → is_eq o ≡ true → is_lt o ≡ false
eq_no Less h = sym h
eq_no Equal h = refl
eq_no Greater h = refl

pub same_no : (a b : Name) → bytes_eq a b ≡ true → lt a b ≡ false
same_no a b h = eq_no _ (is_eq-slice_cmp a b ∙ h)

le_from_lt : (o : Ordering) → is_lt o ≡ true → is_le o ≡ true
le_from_lt Less h = refl
le_from_lt Equal h = absurd (cc)
le_from_lt Greater h = absurd (cc)

pub both : (a b : Name) → lt a b ≡ true → is_le (slice_cmp nat_cmp a b) ≡ false → ⊥
both a b h k = let yes = le_from_lt (slice_cmp nat_cmp a b) h in absurd (cc)

-- neither below nor above is the same
between : (o : Ordering) → is_lt o ≡ false → is_le o ≡ true → is_eq o ≡ true
between Less h k = sym h ∙ refl
between Equal h k = refl
between Greater h k = k

pub same_between : (a b : Name) → lt a b ≡ false → is_le (slice_cmp nat_cmp a b) ≡ true → bytes_eq a b ≡ true
same_between a b h k = sym (is_eq-slice_cmp a b) ∙ between (slice_cmp nat_cmp a b) h k

le_no : (o : Ordering) → is_le o ≡ false → is_eq o ≡ false
le_no Less h = sym h ∙ h
le_no Equal h = h
le_no Greater h = refl

pub above_no : (a b : Name) → is_le (slice_cmp nat_cmp a b) ≡ false → bytes_eq a b ≡ false
above_no a b h = sym (is_eq-slice_cmp a b) ∙ le_no (slice_cmp nat_cmp a b) h

lt_no : (o : Ordering) → is_lt o ≡ true → is_eq o ≡ false
lt_no Less h = refl
lt_no Equal h = absurd (cc)
lt_no Greater h = refl

pub below_no : (a b : Name) → lt a b ≡ true → bytes_eq a b ≡ false
below_no a b h = sym (is_eq-slice_cmp a b) ∙ lt_no (slice_cmp nat_cmp a b) h
