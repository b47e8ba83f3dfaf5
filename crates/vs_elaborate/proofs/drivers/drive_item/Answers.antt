use Rattle.vs_elaborate.proofs.drivers.drive_item.Goals as goal

pub returns-in-Wire : goal.returns-in-Wire
returns-in-Wire c envs s f = rw c.in-Wire.is (rw c.deref.ensures.value at (c.drive_declared.ensures envs s f))

pub returns-in-Assign : goal.returns-in-Assign
returns-in-Assign c envs s f = rw c.in-Assign.is (rw c.deref-in-Assign.ensures.value at (c.drive_assigned.ensures envs s f))
