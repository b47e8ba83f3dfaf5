use Rattle.std.proofs.Common.{ℕ, List, slice_get, ◌∙◌, ap}
use Rattle.vs_claims.proofs.FactLemmas.{process_place_is}
use Rattle.vs_claims.proofs.facts.Facts.process_place.Goals as goal

pub returns : goal.returns
returns c =
    c.number_at.ensures ∙ ap (λ (ps : List ℕ). slice_get ps c.args.i) c.deref.ensures.value
    ∙ process_place_is c.self.invariant c.args.self.now c.self.view_is c.args.i
