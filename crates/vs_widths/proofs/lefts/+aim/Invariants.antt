use Rattle.std.proofs.Common.{map, take}
use Rattle.vs_widths.specs.Names.{meaning_of}
use Rattle.vs_widths.specs.Lefts.{Aimed, aimed, concat_aimed}
use Rattle.vs_widths.specs.Aiming.{IsTarget}
use Rattle.vs_widths.proofs.lefts.+aim.Given as goal

abbrev pub invariant-aim_parts-loop-left : goal.invariant-aim_parts-loop-left
invariant-aim_parts-loop-left l = record {
  all : (m : Aimed) → IsTarget l.how (meaning_of l.names) m l.fn.first →
      IsTarget l.how (meaning_of l.names) (concat_aimed m (map (aimed l.how (meaning_of l.names)) (take l.left-index l.rest))) l.all;
}
