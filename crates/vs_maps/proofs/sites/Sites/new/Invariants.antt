use Rattle.std.proofs.Common.{length}
use Rattle.vs_maps.proofs.SiteLemmas.{SitesBelow}
use Rattle.vs_maps.proofs.sites.Sites.new.Given as goal

abbrev pub invariant-loop-i : goal.invariant-loop-i
invariant-loop-i l = SitesBelow l.tables (length l.design.signals) l.i l.of_signals
