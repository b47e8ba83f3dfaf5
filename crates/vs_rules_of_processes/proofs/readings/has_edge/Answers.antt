use Rattle.std.proofs.Common.{refl}
use Rattle.std.proofs.lemmas.Bool.{false≢true}
use Rattle.vs_design.specs.declared.statement.EventTerm.{EventTerm}
use Rattle.vs_rules_of_processes.specs.ReadingPlaces.{IsEdgeOf}
use Rattle.vs_rules_of_processes.proofs.PairLemmas.{found_one, none_found, one_more}
use Rattle.vs_rules_of_processes.proofs.readings.has_edge.Goals as goal

pub returns-then-is_edge_of : goal.returns-then-is_edge_of
returns-then-is_edge_of c = found_one (λ (x : EventTerm). IsEdgeOf x c.args.v) c.args.terms.now c.loop-i.i _ c.loop-i-test.true (c.if-is_edge_of.ensures.0 refl)

pub loop-i-preserved : goal.loop-i-preserved
loop-i-preserved c =
    one_more (λ (x : EventTerm). IsEdgeOf x c.args.v → ⊥) c.args.terms.now c.loop-i.i _ c.loop-i-test.true c.loop-i.invariant (λ h. false≢true (c.if-is_edge_of.ensures.1 h))

pub returns : goal.returns
returns c = none_found (λ (x : EventTerm). IsEdgeOf x c.args.v) c.args.terms.now c.loop-i.i c.loop-i-test.false c.loop-i.invariant
