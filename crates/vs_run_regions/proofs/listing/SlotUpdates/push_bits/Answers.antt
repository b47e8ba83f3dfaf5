use Rattle.std.proofs.Common.{refl, sym, subst}
use Rattle.vs_run_regions.specs.declared.update.Update.TheVariants as u
use Rattle.vs_run_regions.specs.Updates.{AreSlotUpdates, SlotView, bits_write}
use Rattle.vs_process.specs.Spots.{IsSpotIn}
use Rattle.vs_run_regions.proofs.UpdatesLemmas.{listed_bits}
use Rattle.vs_run_regions.proofs.listing.SlotUpdates.push_bits.Goals as goal

pub invariant_of-self-2 : goal.invariant_of-self-2
invariant_of-self-2 c =
    let s = c.self.inside in (
      subst (λ d. AreSlotUpdates s.design.now.signals s.active.items s.made s.left s.writes.items d s.due_writes.items) (sym c.in_ok-push.ensures.items)
          (listed_bits s.design.now.signals s.active.items s.made s.left s.writes.items s.due.items s.due_writes.items (u.Bits c.args.bits) (bits_write c.args.bits) c.self.invariant.0
          (subst (λ (l : SlotView). IsSpotIn l.signals c.args.bits.spot.now) (sym c.self.view_is) c.requires) refl refl),
      c.self.invariant.1,
    )
