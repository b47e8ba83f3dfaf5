use Rattle.std.proofs.Common.{ℕ, List, sym, subst}
use Rattle.vs_design.specs.declared.range.BitRange.{BitRange}
use Rattle.std.specs.declared.vec.Vec.{Vec}
use Rattle.vs_graph.specs.Clear.{AreClear}
use Rattle.std.specs.declared.alloc.Global.{Global}
use Rattle.vs_cert_blocks.specs.Walks.{AreReads, AreWoken}
use Rattle.vs_cert_blocks.proofs.EarlyLemmas.{early_same}
use Rattle.vs_cert_blocks.proofs.Gathered.{sure_same}
use Rattle.vs_cert_blocks.proofs.blocks.are_written_first.Goals as goal

pub are_written-requires-clause-woken : goal.are_written-requires-clause-woken
are_written-requires-clause-woken c = subst (λ (l : List ℕ). AreWoken c.args.tables.now l) (sym c.deref-5.ensures.value) c.in_ok-seeds.ensures

pub are_written-requires-clause-sure : goal.are_written-requires-clause-sure
are_written-requires-clause-sure c = sure_same c.args.tables.now c.in_ok-ranges.ranges.items c.of-sure.result c.in_ok-ranges.ensures c.of-sure.ensures

pub are_written-requires-clause-marks : goal.are_written-requires-clause-marks
are_written-requires-clause-marks c = subst (λ (n : ℕ). AreClear n c.in_ok-marks.marks.items) c.places.ensures c.in_ok-marks.ensures

pub starts-requires-clause-woken : goal.starts-requires-clause-woken
starts-requires-clause-woken c = subst (λ (l : List ℕ). AreWoken c.args.tables.now l) (sym c.deref-3.ensures.value) c.in_ok-seeds.ensures

pub starts-requires-clause-reads : goal.starts-requires-clause-reads
starts-requires-clause-reads c = subst (λ (l : List (Vec BitRange Global)). AreReads c.args.tables.now l) (sym c.deref-4.ensures.value) c.in_ok-reads.ensures

pub early_ranges-requires-clause-woken : goal.early_ranges-requires-clause-woken
early_ranges-requires-clause-woken c = subst (λ (l : List ℕ). AreWoken c.args.tables.now l) (sym c.deref.ensures.value) c.in_ok-seeds.ensures

pub early_ranges-requires-clause-reads : goal.early_ranges-requires-clause-reads
early_ranges-requires-clause-reads c = subst (λ (l : List (Vec BitRange Global)). AreReads c.args.tables.now l) (sym c.deref-2.ensures.value) c.in_ok-reads.ensures

pub invariant_of-walks-clause-early_are : goal.invariant_of-walks-clause-early_are
invariant_of-walks-clause-early_are c = early_same c.args.tables.now c.in_ok-first.first.items c.of-early.result c.in_ok-first.ensures c.of-early.ensures
