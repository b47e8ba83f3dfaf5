-- Lists of which all pass.
use Rattle.std.proofs.Common.{◌≡◌, ℕ, zero, suc, Bool, true, false, cond, List, [], ◌∷◌, ◌++◌, Option, Some, None, length, sym, ◌∙◌}
use Rattle.std.specs.Prelude.{nat_lt}
use Rattle.std.specs.List.{list_all, list_any, AllByRecursion}
use Rattle.std.specs.Str.{bytes_eq}
use Rattle.std.proofs.lemmas.Bool.{and_parts, and_from}
use Rattle.std.proofs.lemmas.List.Folds.{list_all-append}
use Rattle.vs_elaborate.specs.vs_scopes.specs.Generate.{numbered_name, free_name, name_of_block}
use Rattle.vs_elaborate.specs.Named.{NumberedPass}

pub both : {A : Type 0} (p : A → Bool) (xs ys : List A) → list_all p xs ≡ true → list_all p ys ≡ true → list_all p (xs ++ ys) ≡ true
both p xs ys h k = list_all-append p xs ys ∙ and_from (list_all p xs) (list_all p ys) h k

pub halves : {A : Type 0} (p : A → Bool) (xs ys : List A) → list_all p (xs ++ ys) ≡ true → (list_all p xs ≡ true) × (list_all p ys ≡ true)
halves p xs ys h = and_parts (list_all p xs) (list_all p ys) (sym (list_all-append p xs ys) ∙ h)

pub each_append : {A : Type 0} (P : A → Type 0) (xs ys : List A) → AllByRecursion P xs → AllByRecursion P ys → AllByRecursion P (xs ++ ys)
each_append P [] ys h k = k
each_append P (x ∷ xs) ys h k = (h.0, each_append P xs ys h.1 k)

-- ---- names of blocks

-- a name that passes, where there is one
abbrev pub HasGood : (List ℕ → Bool) → Option (List ℕ) → Type 0
HasGood good None = Unit {0}
HasGood good (Some n) = good n ≡ true

module _ (good : List ℕ → Bool) (numbered : NumberedPass good) where
  free_good : (room : ℕ) (names : List (List ℕ)) (padding k : ℕ) → HasGood good (free_name room names padding k)
  unfolding free_name
  free_good zero names padding k = tt
  free_good (suc room) names padding k = by (nat_lt 1024 (length (numbered_name padding k))) (list_any (bytes_eq (numbered_name padding k)) names) (free_good room names (suc padding) k)
    where
      by : (a b : Bool) → HasGood good (free_name room names (suc padding) k) → HasGood good (cond a None (cond b (free_name room names (suc padding) k) (Some (numbered_name padding k))))
      by true b rest = tt
      by false true rest = rest
      by false false rest = numbered padding k

  pub block_name_good : (names : List (List ℕ)) (k : ℕ) (n : Option (List ℕ)) → HasGood good n → HasGood good (name_of_block names k n)
  block_name_good names k None h = free_good 1024 names 0 k
  block_name_good names k (Some n) h = h
