use Rattle.std.proofs.Common.{◌∙◌, refl, sym}
use Rattle.vs_kernel.proofs.state.step_of.Goals as goal

pub returns-then-is_going : goal.returns-then-is_going
returns-then-is_going g c = (refl, sym c.is_going.ensures ∙ c.if-is_going.true)
