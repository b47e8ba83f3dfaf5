use Rattle.std.proofs.Common.{not, sym, ap, ◌∙◌, arith}
use Rattle.std.specs.List.{list_any}
use Rattle.vs_syntax.specs.declared.tree.Module.{Module}
use Rattle.vs_elaborate.specs.Timescales.{scales_in, same_timescale}
use Rattle.vs_elaborate.proofs.ScaleLemmas.{any_flat}
use Rattle.vs_design.specs.vs_logic4.proofs.Basics.{any_front as any_first}
use Rattle.vs_elaborate.proofs.timescales.has_other_timescale.Goals as goal

pub returns-then-has_other_in : goal.returns-then-has_other_in
returns-then-has_other_in c =
    let scale = c.timescale_of-scale.result in
    rw (sym c.timescale_of-scale.ensures) (sym (any_first (λ t. not (same_timescale scale t)) _ _ (any_flat (λ t. not (same_timescale scale t)) (λ (m : Module). scales_in m.directives.items) c.args.source.now.modules.items c.loop-module.module-index c.module-item.result
    (omega arith) (rw c.deref-module-items.ensures.value at c.module-item.is) (sym (ap (λ z. list_any (λ t. not (same_timescale scale t)) (scales_in z)) c.deref.ensures.value) ∙ sym c.has_other_in.ensures ∙ c.if-has_other_in.true))))
