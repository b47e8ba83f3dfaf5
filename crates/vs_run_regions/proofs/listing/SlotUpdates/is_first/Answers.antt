use Rattle.std.proofs.Common.{◌≡◌, ◌∙◌, ◌+◌, ◌-◌, List, Some, true, map, take, drop, slice_get, sym, ap, ap₂, arith}
use Rattle.std.specs.List.{list_any}
use Rattle.vs_design.specs.Writes.{Write}
use Rattle.vs_run_regions.specs.declared.claims.Claim.{Claim}
use Rattle.vs_run_regions.specs.declared.update.Update.{Update}
use Rattle.vs_run_regions.specs.Claims.{are_once}
use Rattle.vs_run_regions.specs.Updates.{SlotView, is_first_left, is_shared, left_of, what_of}
use Rattle.vs_run_regions.proofs.ClaimLemmas.{alone_shown}
use Rattle.vs_run_regions.proofs.UpdatesLemmas.{found, shown_first}
use Rattle.vs_run_regions.proofs.listing.SlotUpdates.is_first.Goals as goal

pub returns-then-is_alone : goal.returns-then-is_alone
returns-then-is_alone c =
    let s = c.self.inside in
    let x = c.in-Some-get.update.now in
    let at = c.in-Some.at in
    let at_is : at ≡ s.made + c.args.number = omega (arith, c.in-Some.ensures) in
    let there : slice_get s.active.items at ≡ Some x = found s.active.items c.deref.result.now at x c.deref.ensures.value c.in-Some-get.ensures.lookup.0 c.in-Some-get.ensures.lookup.1 in
    let once : are_once s.claims.items (what_of s.writes.items x) ≡ true =
    sym (ap₂ (λ (cs : List Claim) (ws : List Write). are_once cs (what_of ws x)) c.deref-then-self.ensures.value c.deref-then-self-2.ensures.value)
    ∙ sym c.is_alone.ensures ∙ c.if-is_alone.true
    in
    alone_shown s.writes.items s.active.items s.made c.args.number at at_is x there c.in_default-update.not-Gone s.claims.items once (λ _. c.self.invariant.1 c.if-self.true)
    ∙ ap (λ (l : SlotView). is_first_left l.active c.args.number) c.self.view_is

pub returns : goal.returns
returns c =
    let s = c.self.inside in
    let x = c.in-Some-get.update.now in
    let at = c.in-Some.at in
    let at_is : at ≡ s.made + c.args.number = omega (arith, c.in-Some.ensures) in
    let there : slice_get s.active.items at ≡ Some x = found s.active.items c.deref.result.now at x c.deref.ensures.value c.in-Some-get.ensures.lookup.0 c.in-Some-get.ensures.lookup.1 in
    let shared : c.any_shares.result ≡ list_any (is_shared (what_of s.writes.items x)) (map (left_of s.writes.items) (take (at - s.made) (drop s.made s.active.items))) =
    c.any_shares.ensures
    ∙ ap₂ (λ (ws : List Write) (xs : List Update). list_any (is_shared (what_of ws x)) (map (left_of ws) (take (at - s.made) (drop s.made xs)))) c.deref-2.ensures.value c.deref-3.ensures.value
    in
    shown_first s.writes.items s.active.items s.made c.args.number at at_is x there c.in_default-update.not-Gone c.any_shares.result shared
    ∙ ap (λ (l : SlotView). is_first_left l.active c.args.number) c.self.view_is
