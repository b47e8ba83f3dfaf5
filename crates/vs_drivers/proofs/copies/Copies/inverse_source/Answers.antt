use Rattle.std.proofs.Common.{ℕ, true, Option, List, sym, ap, ◌∙◌, subst}
use Rattle.vs_design.specs.Parts.{Parts}
use Rattle.vs_drivers.specs.Copies.{AreSources, source_in}
use Rattle.vs_drivers.proofs.copies.Copies.inverse_source.Goals as goal

pub returns : goal.returns
returns c u =
    let S = c.self.inside.inverses.items in
    let inv : AreSources c.args.self.now true S = subst (λ (d : Parts). AreSources d true S) c.self.view_is c.self.invariant.1 in
    let e = c.source_in.ensures ∙ ap (λ (l : List (Option ℕ)). source_in l c.args.v) c.deref.ensures.value in
    (λ h. e ∙ (inv c.args.v u).0 h, λ h. (inv c.args.v u).1 (sym e ∙ h))
