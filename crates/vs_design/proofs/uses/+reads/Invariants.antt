use Rattle.std.proofs.Common.{◌≡◌, ◌++◌, map, drop}
use Rattle.vs_design.specs.Uses.{reads, joined}
use Rattle.vs_design.proofs.uses.+reads.Given as goal

abbrev pub invariant-push_link_reads-loop-e : goal.invariant-push_link_reads-loop-e
invariant-push_link_reads-loop-e l = l.out.items ++ joined (map (λ l. reads l.1) (drop l.e-index l.links)) ≡ l.fn.out.items ++ joined (map (λ l. reads l.1) l.links)

abbrev pub invariant-push_pair_reads-loop-condition : goal.invariant-push_pair_reads-loop-condition
invariant-push_pair_reads-loop-condition l =
    l.out.items ++ joined (map (λ p. reads p.0 ++ reads p.1) (drop l.condition-index l.pairs)) ≡ l.fn.out.items ++ joined (map (λ p. reads p.0 ++ reads p.1) l.pairs)

abbrev pub invariant-push_all_reads-loop-e : goal.invariant-push_all_reads-loop-e
invariant-push_all_reads-loop-e l = l.out.items ++ joined (map reads (drop l.e-index l.all)) ≡ l.fn.out.items ++ joined (map reads l.all)
