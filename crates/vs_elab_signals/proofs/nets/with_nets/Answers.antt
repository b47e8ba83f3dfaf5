use Rattle.std.proofs.Common.{refl}
use Rattle.vs_elab_signals.proofs.nets.with_nets.Goals as goal

pub returns-then-nets : goal.returns-then-nets
returns-then-nets c ss s a = rw c.if-nets.true (rw c.deref.ensures.value at (c.all_nets.ensures ss s a))

pub returns : goal.returns
returns c ss s a = rw c.if-nets.false refl
