use Rattle.std.proofs.Common.{ℕ, List, slice_get, ◌∙◌, ap}
use Rattle.vs_claims.proofs.FactLemmas.{assign_place_is}
use Rattle.vs_claims.proofs.facts.Facts.assign_place.Goals as goal

pub returns : goal.returns
returns c =
    c.number_at.ensures ∙ ap (λ (ps : List ℕ). slice_get ps c.args.j) c.deref.ensures.value
    ∙ assign_place_is c.self.invariant c.args.self.now c.self.view_is c.args.j
