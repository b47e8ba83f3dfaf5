use Rattle.std.proofs.Common.{ℕ, ◌<◌}
use Rattle.vs_drivers.specs.Places.{CoverPlaces}
use Rattle.vs_drivers.proofs.covering.cover_words.Given as goal

abbrev pub invariant-loop-word : goal.invariant-loop-word
invariant-loop-word l = (w : ℕ) → w < l.word → CoverPlaces l.ranges l.signal w l.low l.end
