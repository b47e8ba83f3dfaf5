-- How often the name of a process stands in the order.
use Rattle.std.specs.Prelude.{ℕ, ◌≡◌, Bool, true, false}

-- once where it is of kind comb, else never
abbrev pub IsOrdered : Bool → ℕ → Type 0
IsOrdered true times = times ≡ 1
IsOrdered false times = times ≡ 0
