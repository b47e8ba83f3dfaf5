use Rattle.std.proofs.Common.{◌∙◌, List, true, false, map, ap₂}
use Rattle.vs_design.specs.Writes.{Write}
use Rattle.vs_run_regions.specs.declared.update.Update.{Update}
use Rattle.vs_run_regions.specs.Claims.{with_all}
use Rattle.vs_run_regions.specs.Updates.{left_of}
use Rattle.vs_run_regions.proofs.ClaimLemmas.{claims_made}
use Rattle.vs_run_regions.proofs.listing.SlotUpdates.claim.Goals as goal

pub invariant_of-self-2 : goal.invariant_of-self-2
invariant_of-self-2 c =
    let s = c.self.inside in
    let before = c.claim_all.new.claims.items in (
      c.self.invariant.0,
      claims_made s.writes.items s.made s.active.items before c.claim_all-2.new.claims.items
          (c.claim_all-2.ensures ∙ ap₂ (λ (ws : List Write) (xs : List Update). with_all false (map (left_of ws) xs) before) c.deref-3.ensures.value c.deref-4.ensures.value) true,
    )
