use Rattle.vs_maps.proofs.LateLemmas.{AreSoFar}
use Rattle.vs_maps.proofs.sites.late_marks.Given as goal

abbrev pub invariant-loop-i : goal.invariant-loop-i
invariant-loop-i l = AreSoFar l.tables l.table.items l.i
