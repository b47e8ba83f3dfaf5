use Rattle.std.proofs.Common.{◌≡◌, ◌+◌, ◌∷◌, Some, map, drop, slice_get, ap, subst}
use Rattle.vs_run_regions.specs.Updates.{IsIn, SlotView, left_of}
use Rattle.vs_run_regions.proofs.ClaimLemmas.{claims_next}
use Rattle.vs_run_regions.proofs.UpdatesLemmas.{drop_next, found, in_at, listed_gone, listed_next}
use Rattle.vs_run_regions.proofs.listing.SlotUpdates.next.Goals as goal

pub invariant_of-self : goal.invariant_of-self
invariant_of-self c =
    let s = c.self.inside in
    let x = c.in_ok-update.field-0.now in
    let ws = s.writes.items in
    let there : slice_get s.active.items s.made ≡ Some x = found s.active.items c.deref.result.now s.made x c.deref.ensures.value c.in_ok-update.ensures.lookup.0 c.in_ok-update.ensures.lookup.1 in (
      listed_gone s.design.now.signals s.active.items s.made s.left ws s.due.items s.due_writes.items c.self.invariant.0 x there c.in-Gone.is,
      claims_next s.claimed s.claims.items (map (left_of ws) (drop s.made s.active.items)) (map (left_of ws) (drop (s.made + 1) s.active.items)) (left_of ws x)
          (ap (map (left_of ws)) (drop_next s.active.items s.made x there)) c.self.invariant.1,
    )

pub invariant_of-self-2 : goal.invariant_of-self-2
invariant_of-self-2 c =
    let s = c.self.inside in
    let x = c.in_ok-update.field-0.now in
    let ws = s.writes.items in
    let there : slice_get s.active.items s.made ≡ Some x = found s.active.items c.deref.result.now s.made x c.deref.ensures.value c.in_ok-update.ensures.lookup.0 c.in_ok-update.ensures.lookup.1 in (
      listed_next s.design.now.signals s.active.items s.made s.left ws s.due.items s.due_writes.items c.self.invariant.0 x there c.in_default.not-Gone,
      claims_next s.claimed s.claims.items (map (left_of ws) (drop s.made s.active.items)) (map (left_of ws) (drop (s.made + 1) s.active.items)) (left_of ws x)
          (ap (map (left_of ws)) (drop_next s.active.items s.made x there)) c.self.invariant.1,
    )

pub returns : goal.returns
returns c =
    let x = c.in_ok-update.field-0.now in
    let items = c.self.inside.active.items in
    let ws = c.self.inside.writes.items in
    let there : slice_get items c.self.inside.made ≡ Some x = found items c.deref.result.now c.self.inside.made x c.deref.ensures.value c.in_ok-update.ensures.lookup.0 c.in_ok-update.ensures.lookup.1 in
    let after = map (left_of ws) (drop (c.self.inside.made + 1) items) in
    record {
      taken =
          subst (λ (l : SlotView). l.active ≡ left_of l.writes x ∷ after) c.self.view_is (ap (map (left_of ws)) (drop_next items c.self.inside.made x there));
      others = ap (λ (l : SlotView). record l { active = after }) c.self.view_is;
      unchanged = tt;
      known = subst (λ (l : SlotView). IsIn l.signals l.writes x) c.self.view_is (in_at c.self.inside.design.now.signals ws items c.self.inside.made x c.self.invariant.0.active_in there);
    }
