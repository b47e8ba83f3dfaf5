-- The processes of a run by what they wait for.
use Rattle.std.specs.Prelude.{ℕ, ◌≡◌, ◌==◌, Bool, true, false, List, slice_set}
use Rattle.vs_time_wheel.specs.declared.timing.Timed.{Timed}
use Rattle.vs_time_wheel.specs.Bag.{events_at}
use Rattle.vs_process.specs.Places.{Place, sleeping, is_going, is_inactive}
use Rattle.vs_run_active.specs.ListCounts.{Lists}

-- whether the delay of a process ends at a time
abbrev pub sleeps_until : ℕ → Place → Bool
sleeps_until time (sleeping due todo) = due == time
sleeps_until time _ = false

-- lists of numbers say which processes are inactive, and which sleep until when
pub record AreKept (places : List Place) (inactive : List ℕ) (sleepers : List (Timed ℕ)) : Type 0 where
  pub inactive_ones : Lists is_inactive places inactive
  pub sleeping_ones : (time : ℕ) → Lists (sleeps_until time) places (events_at time sleepers)

-- they would say so with an active process at this number
pub record AreKeptBut (places : List Place) (inactive : List ℕ) (sleepers : List (Timed ℕ)) (process : ℕ) : Type 0 where
  pub old : Place
  pub active : is_going old ≡ true
  pub kept : AreKept (slice_set places process old) inactive sleepers
