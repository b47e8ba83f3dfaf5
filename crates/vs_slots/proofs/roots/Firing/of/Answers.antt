use Rattle.std.proofs.Common.{Option, List, sym, subst}
use Rattle.vs_slots_constants.specs.declared.clocks.Clock.{Clock}
use Rattle.vs_slots.specs.Kept.{AreClocks}
use Rattle.vs_slots.proofs.KeptLemmas.{firings}
use Rattle.vs_slots.proofs.roots.Firing.of.Goals as goal

pub table_for-requires-clause-clocks : goal.table_for-requires-clause-clocks
table_for-requires-clause-clocks c = subst (λ (l : List (Option Clock)). AreClocks c.args.facts.now l) (sym c.deref.ensures.value) c.in_ok-clocks.ensures

pub table_for-requires-2-clause-clocks : goal.table_for-requires-2-clause-clocks
table_for-requires-2-clause-clocks c = subst (λ (l : List (Option Clock)). AreClocks c.args.facts.now l) (sym c.deref-2.ensures.value) c.in_ok-clocks.ensures

pub table_for-requires-3-clause-clocks : goal.table_for-requires-3-clause-clocks
table_for-requires-3-clause-clocks c = subst (λ (l : List (Option Clock)). AreClocks c.args.facts.now l) (sym c.deref-3.ensures.value) c.in_ok-clocks.ensures

pub returns : goal.returns
returns c = record {
  tables_are = firings c.args.facts.now
      (record { any = c.in_ok-any.any; posedge = c.in_ok-posedge.posedge; negedge = c.in_ok-negedge.negedge; inverted = c.args.inverted })
      c.in_ok-any.ensures c.in_ok-posedge.ensures c.in_ok-negedge.ensures;
  inverted_are = c.requires.inverted;
}
