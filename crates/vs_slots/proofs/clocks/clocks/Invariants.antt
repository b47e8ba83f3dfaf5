use Rattle.std.proofs.Common.{◌≡◌, ◌<◌, ℕ, None, length, get_or}
use Rattle.vs_slots.specs.Kept.{IsClockOf}
use Rattle.vs_slots.proofs.clocks.clocks.Given as goal

abbrev pub invariant-loop-v : goal.invariant-loop-v
invariant-loop-v l = (length l.all.items ≡ l.v) × ((k : ℕ) → k < length l.all.items → IsClockOf l.facts k (get_or l.all.items k None))
