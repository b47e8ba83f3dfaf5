use Rattle.std.proofs.Common.{◌≡◌, ◌++◌, map, drop}
use Rattle.vs_design.specs.Uses.{joined}
use Rattle.vs_process.specs.Writes.{statement_writes}
use Rattle.vs_process.proofs.statements.+statement_writes.Given as goal

abbrev pub invariant-push_block_writes-loop-s : goal.invariant-push_block_writes-loop-s
invariant-push_block_writes-loop-s l = l.out.items ++ joined (map statement_writes (drop l.s-index l.all)) ≡ l.fn.out.items ++ joined (map statement_writes l.all)

abbrev pub invariant-push_item_writes-loop-body : goal.invariant-push_item_writes-loop-body
invariant-push_item_writes-loop-body l =
    l.out.items ++ joined (map (λ i. statement_writes i.1) (drop l.body-index l.items)) ≡ l.fn.out.items ++ joined (map (λ i. statement_writes i.1) l.items)
