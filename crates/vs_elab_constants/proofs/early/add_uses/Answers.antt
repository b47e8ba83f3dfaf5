use Rattle.vs_elab_constants.proofs.early.add_uses.Goals as goal

pub returns-in-Instances : goal.returns-in-Instances
returns-in-Instances c = rw c.in-Instances.is ((rw c.deref.ensures.value at c.add_instances.ensures) c.in-Instances.field-0.items c.in-Instances.field-1)
