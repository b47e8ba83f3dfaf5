use Rattle.std.proofs.Common.{◌≡◌, Some, slice_get, sym, ap, ◌∙◌}
use Rattle.std.proofs.lemmas.Result.{on_ok_weaker}
use Rattle.vs_design.specs.declared.design.Assign.{Assign}
use Rattle.vs_design.specs.Uses.{writes}
use Rattle.vs_drivers.proofs.CopyLemmas.{at_here, put_targets}
use Rattle.vs_drivers.proofs.copies.TargetsFamily.put.Goals as goal

pub returns : goal.returns
returns c =
    let d = c.args.self.now.design.now in
    let assign = c.index-assigns-i.result in
    let at : slice_get d.assigns c.args.i ≡ Some assign = at_here c.assigns-assigns.result.now d.assigns c.args.i assign c.assigns-assigns.ensures c.if-i-assigns.false c.index-assigns-i.is in
    on_ok_weaker c.push_signals.result
    (λ h. put_targets d c.args.i assign at c.args.out.now.items c.push_signals.new.out.items c.deref.result.now (c.deref.ensures.value ∙ c.in_ok-ranges.ensures ∙ sym (ap (λ (a : Assign). writes a.target) c.index-assigns-i.is)) h)
    c.push_signals.ensures
