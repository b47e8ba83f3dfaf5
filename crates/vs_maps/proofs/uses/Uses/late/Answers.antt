use Rattle.std.proofs.Common.{◌≡◌, Some, slice_get, sym, ◌∙◌, ap, subst}
use Rattle.std.proofs.lemmas.Option.{slice_get_within}
use Rattle.vs_maps.specs.Reaches.{places}
use Rattle.vs_maps.specs.Walks.{AreMarked, InLate}
use Rattle.vs_maps.specs.Texts.{Texts, marks_of}
use Rattle.vs_maps.proofs.uses.Uses.late.Goals as goal

pub returns : goal.returns
returns c t at =
    let u = c.self.inside in
    let here : slice_get u.sites.charts c.args.i ≡ Some t = subst (λ (x : Texts). slice_get x.charts c.args.i ≡ Some t) (sym c.self.view_is) at in
    subst (AreMarked (InLate t) (places t)) (sym (c.marks_of.ensures ∙ ap (λ l. marks_of l c.args.i) c.deref.ensures.value))
    (c.self.invariant c.args.i t (slice_get_within u.sites.charts c.args.i t here) here)
