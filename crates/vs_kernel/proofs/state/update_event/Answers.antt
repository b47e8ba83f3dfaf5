use Rattle.std.proofs.Common.{◌∙◌, sym}
use Rattle.vs_kernel.proofs.state.update_event.Goals as goal

pub returns-then-not-has_active : goal.returns-then-not-has_active
returns-then-not-has_active g c = sym c.has_active.ensures ∙ c.if-not-has_active.true
