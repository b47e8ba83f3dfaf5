use Rattle.std.proofs.Common.{◌∙◌, refl, sym}
use Rattle.vs_kernel.proofs.ActiveLemmas.{neither_left}
use Rattle.vs_kernel.proofs.state.assign_event.Goals as goal

pub returns-then-is_pending : goal.returns-then-is_pending
returns-then-is_pending g c = ((refl, sym c.is_pending.ensures ∙ c.if-is_pending.true), tt)

pub returns-then-needs : goal.returns-then-needs
returns-then-needs g c = ((refl, sym c.needs.ensures ∙ c.if-needs.true), tt)

pub returns : goal.returns
returns g c = neither_left _ (sym c.needs.ensures ∙ c.if-needs.false) (sym c.is_pending.ensures ∙ c.if-is_pending.false)
