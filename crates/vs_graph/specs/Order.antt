-- An order of things of which some need others. Things go by their numbers.
use Rattle.std.specs.Prelude.{ℕ, ◌≡◌, ◌<◌, Some, List, length, slice_get}
use Rattle.std.specs.List.{Contains}
use Rattle.std.specs.declared.vec.Vec.{Vec}
use Rattle.std.specs.declared.alloc.Global.{Global}

-- a thing needs another one, by a table of the lists of what each needs
pub record Needs (table : List (Vec ℕ Global)) (x y : ℕ) : Type 0 where
  pub list : Vec ℕ Global
  pub is : slice_get table x ≡ Some list
  pub has : Contains list.items y

-- a thing stands at an earlier place of an order
pub record Precedes (order : List ℕ) (i y : ℕ) : Type 0 where
  pub place : ℕ
  pub before : place < i
  pub is : slice_get order place ≡ Some y

-- it needs one that doesn't stand in the order
pub record Lacks (table : List (Vec ℕ Global)) (order : List ℕ) (x : ℕ) : Type 0 where
  pub lacked : ℕ
  pub needs : Needs table x lacked
  pub is_out : Contains order lacked → ⊥

-- things of a table stand in the order once, each after those that it needs; and each other one needs one that doesn't stand there either
pub record IsSorted (table : List (Vec ℕ Global)) (order : List ℕ) : Type 0 where
  pub within : (x : ℕ) → Contains order x → x < length table
  pub once : (i j x : ℕ) → slice_get order i ≡ Some x → slice_get order j ≡ Some x → i ≡ j
  pub after : (i x y : ℕ) → slice_get order i ≡ Some x → Needs table x y → Precedes order i y
  pub lacks : (x : ℕ) → x < length table → (Contains order x → ⊥) → Lacks table order x
