use Rattle.std.proofs.Common.{◌≡◌, ℕ, [], length}
use Rattle.vs_time_wheel.specs.Rotation.{slot_at}
use Rattle.vs_time_wheel.proofs.rotation.Rotation.new.Given as goal

-- the slots so far are free
abbrev pub invariant-loop : goal.invariant-loop
invariant-loop g l = record {
  count : length l.slots.items ≡ l.counter;
  free : (i : ℕ) → slot_at l.slots.items i ≡ [];
}
