use Rattle.std.proofs.Common.{◌≡◌, ◌∙◌, ◌+◌, Some, None, drop, map, slice_get, slice_set, ap, subst, arith}
use Rattle.vs_run_regions.specs.Updates.{IsIn, SlotView, left_of, what_of}
use Rattle.vs_run_regions.proofs.ClaimLemmas.{claims_taken}
use Rattle.vs_run_regions.proofs.UpdatesLemmas.{found, in_at, is_left, left_there, lefts_without, listed_taken, some_left}
use Rattle.vs_run_regions.proofs.listing.SlotUpdates.take.Goals as goal

pub overflow_sub-self : goal.overflow_sub-self
overflow_sub-self c =
    let s = c.self.inside in
    let x = c.in_ok-update.field-0.now in
    let at = c.in_ok-at.at in
    let at_is : at ≡ s.made + c.args.number = omega (arith, c.in_ok-at.ensures) in
    let there : slice_get s.active.items at ≡ Some x = found s.active.items c.deref.result.now at x c.deref.ensures.value c.in_ok-update.ensures.lookup.0 c.in_ok-update.ensures.lookup.1 in
    let some = some_left s.design.now.signals s.active.items s.made s.left s.writes.items s.due.items s.due_writes.items c.self.invariant.0 c.args.number at at_is x there
    (what_of s.writes.items x) (is_left s.writes.items x c.in_default.not-Gone) in
    omega (arith, some)

pub invariant_of-self : goal.invariant_of-self
invariant_of-self c =
    let s = c.self.inside in
    let x = c.in_ok-update.field-0.now in
    let at = c.in_ok-at.at in
    let at_is : at ≡ s.made + c.args.number = omega (arith, c.in_ok-at.ensures) in
    let there : slice_get s.active.items at ≡ Some x = found s.active.items c.deref.result.now at x c.deref.ensures.value c.in_ok-update.ensures.lookup.0 c.in_ok-update.ensures.lookup.1 in (
      listed_taken s.design.now.signals s.active.items s.made s.left s.writes.items s.due.items s.due_writes.items c.self.invariant.0 c.args.number at at_is x there
          (what_of s.writes.items x) (is_left s.writes.items x c.in_default.not-Gone),
      claims_taken s.claimed s.claims.items (map (left_of s.writes.items) (drop s.made s.active.items)) _ c.args.number
          (lefts_without s.design.now.signals s.active.items s.made s.left s.writes.items s.due.items s.due_writes.items c.self.invariant.0 c.args.number at at_is x there) c.self.invariant.1,
    )

pub returns : goal.returns
returns c =
    let s = c.self.inside in
    let x = c.in_ok-update.field-0.now in
    let at = c.in_ok-at.at in
    let at_is : at ≡ s.made + c.args.number = omega (arith, c.in_ok-at.ensures) in
    let there : slice_get s.active.items at ≡ Some x = found s.active.items c.deref.result.now at x c.deref.ensures.value c.in_ok-update.ensures.lookup.0 c.in_ok-update.ensures.lookup.1 in
    record {
      taken =
          subst (λ (l : SlotView). slice_get l.active c.args.number ≡ Some (Some (what_of l.writes x))) c.self.view_is
          (left_there s.design.now.signals s.active.items s.made s.left s.writes.items s.due.items s.due_writes.items c.self.invariant.0 c.args.number at at_is x there
          ∙ ap Some (is_left s.writes.items x c.in_default.not-Gone));
      rest =
          ap (λ l. record { signals = s.design.now.signals; active = l; due = map (what_of s.due_writes.items) s.due.items; writes = s.writes.items })
          (lefts_without s.design.now.signals s.active.items s.made s.left s.writes.items s.due.items s.due_writes.items c.self.invariant.0 c.args.number at at_is x there)
          ∙ ap (λ (l : SlotView). record l { active = slice_set l.active c.args.number None }) c.self.view_is;
      kept = tt;
      left = subst (λ (l : SlotView). left_of l.writes x ≡ Some (what_of l.writes x)) c.self.view_is (is_left s.writes.items x c.in_default.not-Gone);
      known = subst (λ (l : SlotView). IsIn l.signals l.writes x) c.self.view_is (in_at s.design.now.signals s.writes.items s.active.items at x c.self.invariant.0.active_in there);
    }
