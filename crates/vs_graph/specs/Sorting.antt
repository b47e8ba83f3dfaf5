-- What a sort that isn't done has.
use Rattle.std.specs.Prelude.{ℕ, ◌≡◌, ◌<◌, ◌⊎◌, ◌++◌, Bool, true, false, Some, List, length, slice_get, slice_index_or}
use Rattle.std.specs.List.{Contains}
use Rattle.std.specs.declared.vec.Vec.{Vec}
use Rattle.std.specs.declared.alloc.Global.{Global}
use Rattle.vs_graph.specs.Order.{Needs, Precedes, Lacks}
use Rattle.vs_graph.specs.Rows.{row}

abbrev pub IsPlaced : List Bool → ℕ → Type 0
IsPlaced placed x = slice_index_or placed x false ≡ true

-- things stand in an order once, each after those that it needs, and are marked
pub record AreSorted (table : List (Vec ℕ Global)) (order : List ℕ) (placed : List Bool) : Type 0 where
  pub long : length placed ≡ length table
  pub marked : (x : ℕ) → Contains order x → IsPlaced placed x
  pub there : (x : ℕ) → IsPlaced placed x → Contains order x
  pub once : (i j x : ℕ) → slice_get order i ≡ Some x → slice_get order j ≡ Some x → i ≡ j
  pub after : (i x y : ℕ) → slice_get order i ≡ Some x → Needs table x y → Precedes order i y

-- one of some things isn't placed
pub record LacksOne (placed : List Bool) (needed : List ℕ) : Type 0 where
  pub lacked : ℕ
  pub has : Contains needed lacked
  pub is_out : IsPlaced placed lacked → ⊥

-- an order goes on as it was
abbrev pub GoesOn : List ℕ → List ℕ → Type 0
GoesOn old new = (more : List ℕ) × (new ≡ old ++ more)

-- a thing of the table is placed, or needs one that doesn't stand in an order
abbrev pub IsTried : List (Vec ℕ Global) → List ℕ → List Bool → ℕ → Type 0
IsTried table order placed x = x < length table → IsPlaced placed x ⊎ Lacks table order x

-- an order goes on, and a thing has been tried
pub record IsPlacing (table : List (Vec ℕ Global)) (x : ℕ) (old new : List ℕ) (placed : List Bool) : Type 0 where
  pub sorted : AreSorted table new placed
  pub goes_on : GoesOn old new
  pub tried : IsTried table old placed x

-- the same of some things
pub record ArePlacing (table : List (Vec ℕ Global)) (things old new : List ℕ) (placed : List Bool) : Type 0 where
  pub sorted : AreSorted table new placed
  pub goes_on : GoesOn old new
  pub tried : (x : ℕ) → Contains things x → IsTried table old placed x

-- a thing needs one that doesn't stand at the first so many places
pub record LacksAt (table : List (Vec ℕ Global)) (order : List ℕ) (i x : ℕ) : Type 0 where
  pub lacked : ℕ
  pub needs : Needs table x lacked
  pub is_out : (k : ℕ) → k < i → slice_get order k ≡ Some lacked → ⊥

-- each thing of the table is placed, or needs one that doesn't stand at the first so many places
abbrev pub AreTriedAt : List (Vec ℕ Global) → List ℕ → List Bool → ℕ → Type 0
AreTriedAt table order placed i = (x : ℕ) → x < length table → IsPlaced placed x ⊎ LacksAt table order i x

-- each thing stands in the row of each that it needs
abbrev pub AreUsers : List (Vec ℕ Global) → List (List ℕ) → Type 0
AreUsers table users = (x y : ℕ) → Needs table x y → y < length table → Contains (row users y) x
