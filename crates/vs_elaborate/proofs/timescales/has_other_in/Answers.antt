use Rattle.std.proofs.Common.{false, not, ◌||◌, sym, ap, ◌∙◌, arith}
use Rattle.std.specs.List.{list_any}
use Rattle.vs_design.specs.declared.timescale.Timescale.{Timescale}
use Rattle.vs_design.specs.vs_logic4.proofs.Basics.{get_or_same}
use Rattle.vs_elaborate.specs.Timescales.{scale_in, same_timescale}
use Rattle.vs_elaborate.specs.passes.Scales.{as_list}
use Rattle.vs_elaborate.proofs.ScaleLemmas.{any_flat}
use Rattle.vs_elaborate.proofs.timescales.has_other_in.Goals as goal

pub returns-then-not-same_timescale : goal.returns-then-not-same_timescale
returns-then-not-same_timescale c =
    let xs = c.args.directives.now in
    let i = c.loop-directive.directive-index in
    let differs = λ (t : Timescale). not (same_timescale c.args.scale t) in
    sym (any_flat differs scale_in xs i _ (omega arith) (get_or_same xs i _ (omega arith)) (ap (list_any differs) (sym c.scale_in.ensures ∙ ap as_list c.in-Some.is) ∙ ap (λ b. not b || false) (sym c.same_timescale.ensures ∙ c.if-not-same_timescale.true)))
