use Rattle.std.proofs.Common.{◌++◌, ◌∙◌, ap, map}
use Rattle.vs_design.specs.Uses.{joined}
use Rattle.vs_design.specs.Statements.{arg_reads}
use Rattle.vs_design.proofs.LoopLemmas.{each_pushed, all_pushed}
use Rattle.vs_design.proofs.statement_uses.push_call_reads.Goals as goal

pub loop-arg-preserved : goal.loop-arg-preserved
loop-arg-preserved c =
    each_pushed arg_reads c.deref-arg-items.result.now c.loop-arg.arg-index c.arg-item.result c.loop-arg.out.items c.push_arg_reads.new.out.items _
    c.loop-arg-test.true c.arg-item.is c.in_ok-push_arg_reads.ensures c.loop-arg.invariant

pub returns : goal.returns
returns c =
    all_pushed arg_reads c.deref-arg-items.result.now c.loop-arg.arg-index c.loop-arg.out.items _ c.loop-arg-test.false c.loop-arg.invariant
    ∙ ap (λ args. c.args.out.now.items ++ joined (map arg_reads args)) c.deref-arg-items.ensures.value
