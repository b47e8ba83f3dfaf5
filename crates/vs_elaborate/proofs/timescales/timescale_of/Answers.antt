use Rattle.std.proofs.Common.{sym, ap, ◌∙◌, arith}
use Rattle.vs_syntax.specs.declared.tree.Module.{Module}
use Rattle.vs_elaborate.specs.Timescales.{scales_in}
use Rattle.vs_elaborate.specs.passes.Scales.{first_of}
use Rattle.vs_elaborate.proofs.ScaleLemmas.{first_found, first_scale}
use Rattle.vs_elaborate.proofs.timescales.timescale_of.Goals as goal

pub returns-in-Some : goal.returns-in-Some
returns-in-Some c =
    first_scale _ _ c.in-Some.scale (first_found (λ (m : Module). scales_in m.directives.items) c.args.source.now.modules.items c.loop-module.module-index c.module-item.result c.in-Some.scale (omega arith) (rw c.deref-module-items.ensures.value at c.module-item.is)
    c.loop-module.invariant (sym (sym c.in-Some.is ∙ c.first_in.ensures ∙ ap (λ z. first_of (scales_in z)) c.deref.ensures.value)))
