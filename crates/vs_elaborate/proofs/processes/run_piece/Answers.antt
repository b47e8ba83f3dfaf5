use Rattle.vs_elaborate.proofs.FillingLemmas.{quiet_piece, runs_still}
use Rattle.vs_elaborate.proofs.processes.run_piece.Goals as goal

pub returns-in-Plain : goal.returns-in-Plain
returns-in-Plain c envs s f = rw c.in-Plain.is (c.run_item.ensures envs s f)

pub returns-in_default : goal.returns-in_default
returns-in_default c envs s f start done h = runs_still envs s c.args.first c.args.contents.now start done _ (quiet_piece c.args.piece.now c.in_default.not-Plain) h

pub run_item-requires-clause-blocks : goal.run_item-requires-clause-blocks
run_item-requires-clause-blocks c = rw c.in-Plain.is at c.requires.blocks
