-- Signals behind inverters, as nodes of a graph.
use Rattle.std.specs.Prelude.{ℕ, ◌≡◌, ◌<◌, ◌↔◌, ◌+◌, ◌-◌, nat_lt, Bool, true, false, not, List, ◌++◌, length, map, if◌then◌else◌}
use Rattle.std.specs.List.{Contains}
use Rattle.vs_design.specs.Parts.{Parts}
use Rattle.vs_maps.specs.vs_graph.specs.Rows.{row}
use Rattle.vs_slots_constants.specs.vs_rules.specs.Claims.{HasKind}
use Rattle.vs_slots_constants.specs.vs_rules.specs.Copies.{IsOneBit}
use Rattle.vs_drivers.specs.Copies.{IsCopyOf}

-- a variable of one bit
abbrev pub IsStart : Parts → ℕ → Type 0
IsStart d v = IsOneBit d v × HasKind true d v

-- the row of each signal has the nets that copy it, or its inverse
abbrev pub AreBack : Parts → Bool → List (List ℕ) → Type 0
AreBack d inverse table = (u v : ℕ) → (Contains (row table u) v ↔ IsCopyOf d inverse v u)

-- what rows have is below a number
abbrev pub AreWithin : List (List ℕ) → ℕ → Type 0
AreWithin table n = (u v : ℕ) → Contains (row table u) v → v < n

-- a signal behind an odd number of inverters, as its number, or behind an even one, as a number past those of all signals
abbrev pub node : ℕ → Bool → ℕ → ℕ
node n odd v = if odd then v else n + v

-- the nodes of the nets that copy the signal of a node, or its inverse
abbrev pub copy_nodes : List (List ℕ) → List (List ℕ) → ℕ → Bool → ℕ → List ℕ
copy_nodes copies inverses n odd u = map (node n odd) (row copies u) ++ map (node n (not odd)) (row inverses u)

-- the same of a node by its number
abbrev pub mirrored : List (List ℕ) → List (List ℕ) → ℕ → ℕ → List ℕ
mirrored copies inverses n a = if nat_lt a n then copy_nodes copies inverses n true a else copy_nodes copies inverses n false (a - n)

-- these are the nodes of the variables of one bit
abbrev pub AreStarts : Parts → List ℕ → Type 0
AreStarts d starts = (k : ℕ) → (Contains starts k ↔ ((v : ℕ) × (v < length d.signals) × (IsStart d v × (node (length d.signals) false v ≡ k))))
