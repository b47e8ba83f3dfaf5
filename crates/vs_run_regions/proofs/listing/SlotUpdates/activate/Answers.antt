use Rattle.std.proofs.Common.{ap, ◌∙◌}
use Rattle.std.proofs.lemmas.Bool.{false≢true}
use Rattle.vs_run_regions.proofs.UpdatesLemmas.{listed_swapped}
use Rattle.vs_run_regions.proofs.listing.SlotUpdates.activate.Goals as goal

pub invariant_of-self : goal.invariant_of-self
invariant_of-self c =
    let s = c.self.inside in (
      listed_swapped s.design.now.signals s.active.items s.made s.left s.writes.items s.due.items s.due_writes.items c.self.invariant.0 c.swap.new.x.items c.len-self-inside.result c.swap-2.new.x.items
          c.swap.new.y.items c.swap-2.new.y.items (ap (λ v. v.items) c.swap.ensures.x_after) (c.len-self-inside.ensures ∙ s.due.ok.0) (ap (λ v. v.items) c.swap-2.ensures.x_after)
          (ap (λ v. v.items) c.swap.ensures.y_after ∙ c.clear.ensures.items) (ap (λ v. v.items) c.swap-2.ensures.y_after ∙ c.clear-2.ensures.items),
      λ told. absurd (false≢true told),
    )
