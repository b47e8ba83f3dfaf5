use Rattle.std.proofs.Common.{◌≡◌, length}
use Rattle.vs_maps.specs.Walks.{AreMarked}
use Rattle.vs_maps.proofs.walks.marks_of.Given as goal

abbrev pub invariant-loop-i : goal.invariant-loop-i
invariant-loop-i g l = record {
  long : length l.marks.items ≡ l.i;
  exact : AreMarked (g.R.Rule.keeps l.rule) l.i l.marks.items;
}
