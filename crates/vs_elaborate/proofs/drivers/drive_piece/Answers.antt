use Rattle.vs_elaborate.proofs.drivers.drive_piece.Goals as goal

pub returns-in-Plain : goal.returns-in-Plain
returns-in-Plain c envs s f = rw c.in-Plain.is (c.drive_item.ensures envs s f)
