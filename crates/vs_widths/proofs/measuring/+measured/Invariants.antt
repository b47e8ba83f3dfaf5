use Rattle.std.proofs.Common.{◌≡◌, ℕ, ◌+◌, ◌*◌, max, ◌<◌, ◌≤◌, Some, ◌∷◌, take, drop}
use Rattle.vs_syntax.specs.declared.tree.Expr.{size-Expr}
use Rattle.vs_design.specs.WellFormed.{sum_size}
use Rattle.vs_widths.specs.Names.{meaning_of}
use Rattle.vs_widths.specs.Findings.{Has}
use Rattle.vs_widths.specs.Expressions.{meant, meant_selects, chain_meant, choice_finding}
use Rattle.vs_widths.specs.select_passes.Measures.{meaning, IsFlexible}
use Rattle.vs_widths.specs.passes.Forms.{links_meant, pairs_meant, IsChoicePair, IsPartOf}
use Rattle.vs_widths.specs.Each.{Each}
use Rattle.vs_widths.proofs.DepthLemmas.{parts_depth, links_depth, pairs_depth}
use Rattle.vs_widths.proofs.MeasuringLemmas.{sum_from, sizes_of}
use Rattle.vs_widths.specs.passes.Selects.{AreMeasured}
use Rattle.vs_widths.proofs.measuring.+measured.Given as goal

abbrev pub decreases-measured : goal.decreases-measured
decreases-measured l = 3 * size-Expr l.e.now + 0

abbrev pub decreases-measured_selects : goal.decreases-measured_selects
decreases-measured_selects l = 3 * goal.size-measured_selects l + 1

abbrev pub decreases-measured_links : goal.decreases-measured_links
decreases-measured_links l = 3 * max (size-Expr l.first.now) (links_depth l.links.now) + 1

abbrev pub decreases-measured_pairs : goal.decreases-measured_pairs
decreases-measured_pairs l = 3 * max (pairs_depth l.pairs.now) (size-Expr l.last.now) + 1

abbrev pub decreases-measured_parts : goal.decreases-measured_parts
decreases-measured_parts l = 3 * max (size-Expr l.first.now) (parts_depth l.rest.now) + 1

abbrev pub invariant-measured_selects-loop-index : goal.invariant-measured_selects-loop-index
invariant-measured_selects-loop-index l = AreMeasured (meant_selects (meaning_of l.names) (take l.index-index l.selects)) l.done.items

abbrev pub invariant-measured_links-loop-operator : goal.invariant-measured_links-loop-operator
invariant-measured_links-loop-operator l = record {
  whole : chain_meant (meaning l.all) (links_meant (meaning_of l.names) (drop l.operator-index l.links)) ≡ chain_meant (meant (meaning_of l.names) l.first) (links_meant (meaning_of l.names) l.links);
  flexible : IsFlexible l.all.form;
}

abbrev pub invariant-measured_pairs-loop-condition : goal.invariant-measured_pairs-loop-condition
invariant-measured_pairs-loop-condition l = record {
  whole : choice_finding (Has l.shape.width l.shape.signed) (pairs_meant (meaning_of l.names) (drop l.condition-index l.pairs))
      ≡ choice_finding (Has l.fallback.shape.width l.fallback.shape.signed) (pairs_meant (meaning_of l.names) l.pairs);
  pairs : Each (IsChoicePair (meaning_of l.names)) (take l.condition-index l.pairs) l.done.items;
}

abbrev pub invariant-measured_parts-loop-e : goal.invariant-measured_parts-loop-e
invariant-measured_parts-loop-e l = record {
  whole : sum_from (meaning_of l.names) l.width (drop l.e-index l.rest) ≡ sum_from (meaning_of l.names) l.highest.shape.width l.rest;
  sizes : (w : ℕ) → sum_size (Some l.highest.shape.width ∷ sizes_of w l.done.items) ≡ Some l.width;
  parts : Each (IsPartOf (meaning_of l.names)) (take l.e-index l.rest) l.done.items;
  some : 0 < l.width;
  most : l.width ≤ 64;
}
