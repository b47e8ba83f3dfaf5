use Rattle.std.proofs.Common.{sym, arith}
use Rattle.vs_elab_signals.proofs.ConnectLemmas.{none_named, one_named}
use Rattle.vs_elab_hierarchy.proofs.entering.is_among.Goals as goal

pub returns-then-eq : goal.returns-then-eq
returns-then-eq c =
    sym (one_named c.args.name.now c.args.names.now c.loop-other.other-index _ c.eq.result (omega (arith, c.loop-other-test.true)) c.eq.ensures c.if-eq.true)

pub loop-other-preserved : goal.loop-other-preserved
loop-other-preserved c =
    none_named c.args.name.now c.args.names.now c.loop-other.other-index _ c.eq.result (omega (arith, c.loop-other-test.true)) c.eq.ensures c.if-eq.false c.loop-other.invariant
