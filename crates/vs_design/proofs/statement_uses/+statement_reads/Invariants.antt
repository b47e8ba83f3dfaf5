use Rattle.std.proofs.Common.{◌≡◌, ◌++◌, map, drop}
use Rattle.vs_design.specs.Uses.{joined}
use Rattle.vs_design.specs.Statements.{all_reads, statement_reads}
use Rattle.vs_design.proofs.statement_uses.+statement_reads.Given as goal

abbrev pub invariant-push_block_reads-loop-s : goal.invariant-push_block_reads-loop-s
invariant-push_block_reads-loop-s l = l.out.items ++ joined (map statement_reads (drop l.s-index l.all)) ≡ l.fn.out.items ++ joined (map statement_reads l.all)

abbrev pub invariant-push_item_reads-loop-labels : goal.invariant-push_item_reads-loop-labels
invariant-push_item_reads-loop-labels l =
    l.out.items ++ joined (map (λ i. all_reads i.0.items ++ statement_reads i.1) (drop l.labels-index l.items)) ≡ l.fn.out.items ++ joined (map (λ i. all_reads i.0.items ++ statement_reads i.1) l.items)
