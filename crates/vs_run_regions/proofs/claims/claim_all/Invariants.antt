use Rattle.std.proofs.Common.{◌≡◌, drop, map}
use Rattle.vs_run_regions.specs.Claims.{with_all}
use Rattle.vs_run_regions.specs.Updates.{left_of}
use Rattle.vs_run_regions.proofs.claims.claim_all.Given as goal

abbrev pub invariant-loop-update : goal.invariant-loop-update
invariant-loop-update l =
    with_all l.anew (map (left_of l.writes) (drop l.update-index l.updates)) l.claims.items ≡ with_all l.anew (map (left_of l.writes) l.updates) l.fn.claims.items
