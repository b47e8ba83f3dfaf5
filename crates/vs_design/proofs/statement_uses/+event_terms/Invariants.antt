use Rattle.std.proofs.Common.{◌≡◌, ◌++◌, map, drop}
use Rattle.vs_design.specs.Uses.{joined}
use Rattle.vs_design.specs.Statements.{event_terms}
use Rattle.vs_design.proofs.statement_uses.+event_terms.Given as goal

abbrev pub invariant-push_block_terms-loop-s : goal.invariant-push_block_terms-loop-s
invariant-push_block_terms-loop-s l = l.out.items ++ joined (map event_terms (drop l.s-index l.all)) ≡ l.fn.out.items ++ joined (map event_terms l.all)

abbrev pub invariant-push_item_terms-loop-body : goal.invariant-push_item_terms-loop-body
invariant-push_item_terms-loop-body l =
    l.out.items ++ joined (map (λ i. event_terms i.1) (drop l.body-index l.items)) ≡ l.fn.out.items ++ joined (map (λ i. event_terms i.1) l.items)
