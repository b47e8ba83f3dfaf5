use Rattle.vs_drivers.specs.Wires.{drivers}
use Rattle.vs_graph.proofs.RowLemmas.{AreSoFar}
use Rattle.vs_rules_of_processes.specs.Forward.{WritesSignal}
use Rattle.vs_rules_of_processes.proofs.forward.outs_of.Given as goal

abbrev pub invariant-loop-v : goal.invariant-loop-v
invariant-loop-v l = AreSoFar (λ v n. WritesSignal l.facts.design l.facts.claims n v) l.v (drivers l.facts.design) l.outs
