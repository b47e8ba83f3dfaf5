-- Names in ascending order, each with its place in a list.
use Rattle.std.specs.Prelude.{ℕ, suc, ◌≡◌, ◌≤◌, true, false, List, [], ◌∷◌, length}
use Rattle.std.specs.Borrow.{Bor}
use Rattle.std.specs.Cmp.Lexicographic.{slice_cmp}
use Rattle.std.specs.List.Sorted.{IsPermutation, IsPartitionPoint, IsSorted}
use Rattle.std.specs.declared.cmp.Ordering.{Ordering}
use Rattle.std.specs.Ordering.{nat_cmp, ordering_then, is_lt, is_le}
use Rattle.vs_rules.specs.Claims.{Name}

-- a name, and its place
abbrev pub Placed : Type 0
Placed = Bor Name × ℕ

-- the names of a list with their places, which count from a number
abbrev pub placed_from : ℕ → List (Bor Name) → List Placed
placed_from place [] = []
placed_from place (n ∷ ns) = (n, place) ∷ placed_from (suc place) ns

-- names in ascending order, and those that are the same by their places
abbrev pub placed_cmp : Placed → Placed → Ordering
placed_cmp x y = ordering_then (slice_cmp nat_cmp x.0.now y.0.now) (nat_cmp x.1 y.1)

-- these are the names of a list with their places, in ascending order
pub record AreInOrder (names : List (Bor Name)) (sorted : List Placed) : Type 0 where
  pub same : IsPermutation (placed_from 0 names) sorted
  pub rises : IsSorted placed_cmp sorted

-- so many of them have a name below this one: the first
pub record AreBelow (sorted : List Placed) (name : Name) (n : ℕ) : Type 0 where
  pub few : n ≤ length sorted
  pub point :
      IsPartitionPoint (λ (m : Placed). is_lt (slice_cmp nat_cmp m.0.now name) ≡ true)
      (λ (m : Placed). is_lt (slice_cmp nat_cmp m.0.now name) ≡ false) sorted n

-- so many of them have this name or one below it: the first
pub record AreUpTo (sorted : List Placed) (name : Name) (n : ℕ) : Type 0 where
  pub few : n ≤ length sorted
  pub point :
      IsPartitionPoint (λ (m : Placed). is_le (slice_cmp nat_cmp m.0.now name) ≡ true)
      (λ (m : Placed). is_le (slice_cmp nat_cmp m.0.now name) ≡ false) sorted n
