use Rattle.std.proofs.Common.{◌≤◌}
use Rattle.vs_sign_off.proofs.UnequalLemmas.{AreLeft}
use Rattle.vs_sign_off.proofs.unequal.first_unequal.Given as goal

abbrev pub invariant-loop-signal : goal.invariant-loop-signal
invariant-loop-signal l = record { left : AreLeft l.signals l.place l.signal; most : l.place ≤ l.signal }
