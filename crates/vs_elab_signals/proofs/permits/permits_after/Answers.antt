use Rattle.std.proofs.Common.{ap, sym, ◌∙◌, arith}
use Rattle.std.proofs.lemmas.List.{drop_all}
use Rattle.vs_scopes.specs.Nets.{permits_after}
use Rattle.vs_elab_signals.proofs.NetLemmas.{permits_more}
use Rattle.vs_elab_signals.proofs.permits.permits_after.Goals as goal

pub loop-directive-preserved : goal.loop-directive-preserved
loop-directive-preserved c =
    permits_more c.args.directives.now c.loop-directive.directive-index _ c.loop-directive.allowed c.permits-allowed.result (permits_after c.args.before c.args.directives.now) c.loop-directive-test.true c.permits-allowed.ensures c.loop-directive.invariant

pub returns : goal.returns
returns c =
    let ds = c.args.directives.now in
    let i = c.loop-directive.directive-index in
    sym (ap (permits_after c.loop-directive.allowed) (drop_all i ds (omega arith))) ∙ c.loop-directive.invariant
