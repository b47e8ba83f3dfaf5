use Rattle.std.proofs.Common.{map, take}
use Rattle.vs_widths.specs.Names.{meaning_of}
use Rattle.vs_widths.specs.Lefts.{Aimed, as_left, concat_aimed}
use Rattle.vs_widths.specs.Aiming.{IsTarget}
use Rattle.vs_widths.proofs.lefts.+aim_expr.Given as goal

abbrev pub invariant-aim_exprs-loop-e : goal.invariant-aim_exprs-loop-e
invariant-aim_exprs-loop-e l = record {
  whole : (m : Aimed) → IsTarget l.how (meaning_of l.names) m l.fn.first →
      IsTarget l.how (meaning_of l.names) (concat_aimed m (map (as_left l.how (meaning_of l.names)) (take l.e-index l.rest))) l.whole;
}
