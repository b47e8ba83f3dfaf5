use Rattle.std.proofs.Common.{subst, ◌∙◌}
use Rattle.vs_elab_statements.specs.vs_scopes.specs.scopes_passes.Answers.{IsFaultAt}
use Rattle.vs_elaborate.proofs.frames.place_fault.Goals as goal

pub returns-in-Ok : goal.returns-in-Ok
returns-in-Ok c envs at h =
    subst (λ z. IsFaultAt c.args.reason z c.fault_at.result) (c.in-Ok.ensures.path h.scopes h.scope h.sites.opened h.stands ∙ h.path) (rw c.deref.ensures.value at c.fault_at.ensures)
