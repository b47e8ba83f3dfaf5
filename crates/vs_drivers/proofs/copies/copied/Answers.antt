use Rattle.std.proofs.Common.{◌≡◌, Some, None, slice_get, ap}
use Rattle.std.proofs.lemmas.Option.{same_Some}
use Rattle.vs_drivers.proofs.CopyLemmas.{at_index, copied_is}
use Rattle.vs_drivers.proofs.copies.copied.Goals as goal

pub returns-in-None : goal.returns-in-None
returns-in-None c u = (
  λ h.
      let assign = c.index-assigns-j.result in
      let at : slice_get c.args.design.now.assigns c.args.j ≡ Some assign =
      at_index c.assigns.result.now c.args.design.now.assigns c.args.j assign c.assigns.ensures c.requires c.index-assigns-j.is in
      let b = copied_is c.args.design.now c.args.inverse c.args.j c.args.v assign at u in
      let e : None ≡ Some c.args.v = (c.in-None.ensures c.args.v).0 (b.0 h).0 in
      cc,
  λ h. cc,
)

pub returns-then-of-v : goal.returns-then-of-v
returns-then-of-v c u =
    let assign = c.index-assigns-j.result in
    let at : slice_get c.args.design.now.assigns c.args.j ≡ Some assign =
    at_index c.assigns.result.now c.args.design.now.assigns c.args.j assign c.assigns.ensures c.requires c.index-assigns-j.is in
    let b = copied_is c.args.design.now c.args.inverse c.args.j c.args.v assign at u in
    (λ h. (c.signal_of.ensures u).0 (b.0 h).1, λ h. b.1 ((c.in-Some.ensures c.args.v).1 (ap Some c.if-of-v.true), (c.signal_of.ensures u).1 h))

pub returns-else-of-v : goal.returns-else-of-v
returns-else-of-v c u = (
  λ h.
      let assign = c.index-assigns-j.result in
      let at : slice_get c.args.design.now.assigns c.args.j ≡ Some assign =
      at_index c.assigns.result.now c.args.design.now.assigns c.args.j assign c.assigns.ensures c.requires c.index-assigns-j.is in
      let b = copied_is c.args.design.now c.args.inverse c.args.j c.args.v assign at u in
      absurd (c.if-of-v.false (same_Some c.in-Some.of c.args.v ((c.in-Some.ensures c.args.v).0 (b.0 h).0))),
  λ h. cc,
)
