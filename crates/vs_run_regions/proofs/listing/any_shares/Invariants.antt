use Rattle.std.proofs.Common.{◌≡◌, drop, map}
use Rattle.std.specs.List.{list_any}
use Rattle.vs_run_regions.specs.Updates.{is_shared, left_of, what_of}
use Rattle.vs_run_regions.proofs.listing.any_shares.Given as goal

abbrev pub invariant-loop-update : goal.invariant-loop-update
invariant-loop-update l =
    list_any (is_shared (what_of l.writes l.newer)) (map (left_of l.writes) (drop l.update-index l.older)) ≡ list_any (is_shared (what_of l.writes l.newer)) (map (left_of l.writes) l.older)
