use Rattle.std.proofs.Common.{sym, subst, ap, ◌∙◌}
use Rattle.vs_elab_signals.specs.signal_passes.Sights.{IsSight}
use Rattle.vs_elab_signals.specs.declared.sights.Sight.TheVariants as f
use Rattle.vs_elab_signals.proofs.SightLemmas.{seen_around, nothing_around}
use Rattle.vs_elab_signals.proofs.sights.sight_around.Goals as goal

pub returns-in-Some-clause-sight : goal.returns-in-Some-clause-sight
returns-in-Some-clause-sight c ss s a h k =
    let n = c.args.name.now in
    let u = seen_around ss s c.args.kind c.args.around c.args.piece c.in-Some.place (sym c.outward_place.ensures ∙ c.in-Some.is) k h in
    subst (λ z. IsSight ss n z c.sight_at.result) (sym (ap (λ z. z n) u.2)) (c.sight_at.ensures.sight ss u.0 a u.1)

pub returns-in-None-clause-sight : goal.returns-in-None-clause-sight
returns-in-None-clause-sight c ss s a h k =
    let n = c.args.name.now in
    let e = nothing_around ss s c.args.kind c.args.around c.args.piece (sym c.outward_place.ensures ∙ c.in-None.is) k h in
    subst (λ z. IsSight ss n z f.Unseen) (sym (ap (λ z. z n) e)) tt
