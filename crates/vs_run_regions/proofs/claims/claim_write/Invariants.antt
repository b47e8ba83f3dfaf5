use Rattle.std.proofs.Common.{◌≡◌, drop}
use Rattle.vs_run_regions.specs.Claims.{with_write}
use Rattle.vs_run_regions.proofs.claims.claim_write.Given as goal

abbrev pub invariant-loop-part : goal.invariant-loop-part
invariant-loop-part l = with_write l.anew (drop l.part-index l.part-items) l.claims.items ≡ with_write l.anew l.part-items l.fn.claims.items
