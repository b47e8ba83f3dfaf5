use Rattle.vs_elab_signals.proofs.NetLemmas.{declared_unseen, declared_seen, declared_coming}
use Rattle.vs_elab_signals.proofs.around.is_declared.Goals as goal

pub returns-in-Unseen : goal.returns-in-Unseen
returns-in-Unseen c ss n x h = declared_unseen ss n x (rw c.in-Unseen.is at h)

pub returns-in-Seen : goal.returns-in-Seen
returns-in-Seen c ss n x h = declared_seen ss n x (rw c.in-Seen.is at h)

pub returns-in-Coming : goal.returns-in-Coming
returns-in-Coming c ss n x h = declared_coming ss n x _ (rw c.in-Coming.is at h)
