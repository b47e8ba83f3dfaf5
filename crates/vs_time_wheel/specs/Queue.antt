-- What a contract sees of an event queue.
use Rattle.std.specs.Prelude.{ℕ, List}
use Rattle.vs_time_wheel.specs.declared.timing.Timed.{Timed}

-- a bag of timed events, and the last time given to `take_due`
pub record Queue (E : Type 0) : Type 0 where
  pub bag : List (Timed E)
  pub clock : ℕ
