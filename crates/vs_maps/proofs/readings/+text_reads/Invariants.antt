use Rattle.std.proofs.Common.{◌≡◌, ◌++◌, map, drop}
use Rattle.vs_design.specs.Uses.{joined}
use Rattle.vs_rules.specs.Paths.{text_reads}
use Rattle.vs_maps.proofs.readings.+text_reads.Given as goal

abbrev pub invariant-push_block_reads-loop-s : goal.invariant-push_block_reads-loop-s
invariant-push_block_reads-loop-s l = l.out.items ++ joined (map text_reads (drop l.s-index l.all)) ≡ l.fn.out.items ++ joined (map text_reads l.all)

abbrev pub invariant-push_item_reads-loop-body : goal.invariant-push_item_reads-loop-body
invariant-push_item_reads-loop-body l =
    l.out.items ++ joined (map (λ i. text_reads i.1) (drop l.body-index l.items)) ≡ l.fn.out.items ++ joined (map (λ i. text_reads i.1) l.items)
