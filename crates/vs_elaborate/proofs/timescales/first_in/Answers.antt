use Rattle.std.proofs.Common.{sym, ap, ◌∙◌, arith}
use Rattle.vs_design.specs.vs_logic4.proofs.Basics.{get_or_same}
use Rattle.vs_elaborate.specs.Timescales.{scale_in}
use Rattle.vs_elaborate.specs.passes.Scales.{as_list, first_of}
use Rattle.vs_elaborate.proofs.ScaleLemmas.{first_found}
use Rattle.vs_elaborate.proofs.timescales.first_in.Goals as goal

pub returns-in-Some : goal.returns-in-Some
returns-in-Some c =
    let xs = c.args.directives.now in
    let i = c.loop-directive.directive-index in
    sym (first_found scale_in xs i _ c.in-Some.scale (omega arith) (get_or_same xs i _ (omega arith)) c.loop-directive.invariant (ap first_of (sym c.scale_in.ensures ∙ ap as_list c.in-Some.is)))
