use Rattle.std.proofs.Common.{◌≡◌, ◌+◌, ◌*◌, ◌++◌, take}
use Rattle.vs_syntax.specs.declared.tree.Expr.{size-Expr}
use Rattle.vs_scopes.specs.Reads.{read_names}
use Rattle.vs_scopes.specs.pieces_passes.Parts.{exprs_names, links_names, pairs_names, selects_names}
use Rattle.vs_scopes.proofs.uses.+used.Given as goal

abbrev pub decreases-add_expr : goal.decreases-add_expr
decreases-add_expr l = 5 * size-Expr l.e.now + 0

abbrev pub decreases-add_exprs : goal.decreases-add_exprs
decreases-add_exprs l = 5 * goal.size-add_exprs l + 1

abbrev pub decreases-add_links : goal.decreases-add_links
decreases-add_links l = 5 * goal.size-add_links l + 1

abbrev pub decreases-add_pairs : goal.decreases-add_pairs
decreases-add_pairs l = 5 * goal.size-add_pairs l + 1

abbrev pub decreases-add_second : goal.decreases-add_second
decreases-add_second l = 5 * goal.size-add_second l + 1

abbrev pub decreases-add_select : goal.decreases-add_select
decreases-add_select l = 5 * goal.size-add_select l + 2

abbrev pub decreases-add_selects : goal.decreases-add_selects
decreases-add_selects l = 5 * goal.size-add_selects l + 3

abbrev pub invariant-add_exprs-loop-e : goal.invariant-add_exprs-loop-e
invariant-add_exprs-loop-e l = read_names l.names.items ≡ read_names l.fn.names.items ++ exprs_names (take l.e-index l.all)

abbrev pub invariant-add_links-loop-e : goal.invariant-add_links-loop-e
invariant-add_links-loop-e l = read_names l.names.items ≡ read_names l.fn.names.items ++ links_names (take l.e-index l.links)

abbrev pub invariant-add_pairs-loop-condition : goal.invariant-add_pairs-loop-condition
invariant-add_pairs-loop-condition l = read_names l.names.items ≡ read_names l.fn.names.items ++ pairs_names (take l.condition-index l.pairs)

abbrev pub invariant-add_selects-loop-select : goal.invariant-add_selects-loop-select
invariant-add_selects-loop-select l = read_names l.names.items ≡ read_names l.fn.names.items ++ selects_names (take l.select-index l.selects)
