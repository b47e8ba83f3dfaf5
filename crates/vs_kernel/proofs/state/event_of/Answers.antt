use Rattle.std.proofs.Common.{◌∙◌, refl, sym}
use Rattle.vs_kernel.proofs.state.event_of.Goals as goal

pub returns-then-is_group_active : goal.returns-then-is_group_active
returns-then-is_group_active g c = (refl, sym c.is_group_active.ensures ∙ c.if-is_group_active.true)
