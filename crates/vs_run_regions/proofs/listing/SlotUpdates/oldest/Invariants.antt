use Rattle.std.proofs.Common.{◌≡◌, ◌<◌, ℕ, false}
use Rattle.vs_run_regions.specs.Updates.{is_first_left}
use Rattle.vs_run_regions.proofs.listing.SlotUpdates.oldest.Given as goal

abbrev pub invariant-loop-number : goal.invariant-loop-number
invariant-loop-number l = (n : ℕ) → n < l.number → is_first_left l.self.active n ≡ false
