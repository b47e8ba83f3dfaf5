use Rattle.std.proofs.Common.{sym, subst}
use Rattle.vs_kernel.specs.Snapshot.{IsSnapshot}
use Rattle.vs_kernel.proofs.SnapshotLemmas.{queue_standing}
use Rattle.vs_kernel.proofs.run.Run.follow.Goals as goal

pub returns-clause-run : goal.returns-clause-run
returns-clause-run g c = λ h. queue_standing _ c.follow.new.queue (subst IsSnapshot (sym c.self.view_is) h)
