use Rattle.std.proofs.Common.{◌≡◌, drop}
use Rattle.vs_run_regions.specs.Claims.{are_once}
use Rattle.vs_run_regions.proofs.claims.are_once.Given as goal

abbrev pub invariant-loop-part : goal.invariant-loop-part
invariant-loop-part l = are_once l.claims (drop l.part-index l.part-items) ≡ are_once l.claims l.part-items
