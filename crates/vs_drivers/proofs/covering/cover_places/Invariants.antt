use Rattle.std.proofs.Common.{◌-◌, ◌≤◌}
use Rattle.vs_drivers.specs.Places.{CoverPlaces}
use Rattle.vs_drivers.proofs.covering.cover_places.Given as goal

-- the places so far are covered
abbrev pub invariant-loop-place : goal.invariant-loop-place
invariant-loop-place l = record { from : l.low ≤ l.place; covered : CoverPlaces l.ranges l.signal l.word l.low l.place }

abbrev pub decreases-loop-place : goal.decreases-loop-place
decreases-loop-place l = l.end - l.place
