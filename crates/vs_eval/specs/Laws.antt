-- What the ranges that an expression reads and its size mean.
use Rattle.std.specs.Prelude.{ℕ, ◌≡◌, false, Option, Some, None, List, length, slice_get}
use Rattle.std.specs.List.{list_any}
use Rattle.vs_design.specs.vs_logic4.specs.declared.digit.Digit.{Digit}
use Rattle.vs_design.specs.declared.expression.Typed.{Typed}
use Rattle.vs_design.specs.declared.statement.Target.{Target}
use Rattle.vs_design.specs.Stores.{Store, is_changed, word_of, put}
use Rattle.vs_design.specs.Uses.{covers, reads, target_reads, writes}
use Rattle.vs_design.specs.WellFormed.{size_of}
use Rattle.vs_eval.specs.Targets.{assigned}
use Rattle.vs_eval.specs.Values.{value_of}

-- stores that agree on what an expression reads give it one value
abbrev pub ReadsHold : Type 0
ReadsHold = (e : Typed) (old new : Store) (time : ℕ) → list_any (is_changed old new) (reads e) ≡ false → value_of e old time ≡ value_of e new time

-- so of the write of a target, where they agree on what its indices read
abbrev pub IndicesHold : Type 0
IndicesHold =
    (t : Target) (digits : List Digit) (old new : Store) (time : ℕ) → list_any (is_changed old new) (target_reads t) ≡ false →
    assigned t digits old time ≡ assigned t digits new time

-- a digit of a word, where there is one
abbrev pub digit_in : Option (List Digit) → ℕ → Option Digit
digit_in None place = None
digit_in (Some word) place = slice_get word place

-- a digit of a word of a signal, where there is one
abbrev pub digit_of : Store → ℕ → ℕ → ℕ → Option Digit
digit_of store signal word place = digit_in (word_of store signal word) place

-- a write to a target keeps each digit that no range of the target covers, whatever the store in which its indices are read
abbrev pub WritesHold : Type 0
WritesHold =
    (t : Target) (digits : List Digit) (before store : Store) (time signal word place : ℕ) → list_any (covers signal word place) (writes t) ≡ false →
    digit_of (put store (assigned t digits before time)) signal word place ≡ digit_of store signal word place

-- an expression that has a size has values of that size (clause 5.4.1)
abbrev pub SizesHold : Type 0
SizesHold = (e : Typed) (n : ℕ) (store : Store) (time : ℕ) → size_of e ≡ Some n → length (value_of e store time) ≡ n
