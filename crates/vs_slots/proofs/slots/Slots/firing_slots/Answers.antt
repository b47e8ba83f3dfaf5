use Rattle.std.proofs.Common.{ℕ, ◌↔◌, subst}
use Rattle.std.specs.List.{Contains}
use Rattle.std.proofs.lemmas.Result.{IfOk-weaker}
use Rattle.vs_claims.specs.Facts.{Case}
use Rattle.vs_slots.specs.Kept.{AreTermsIn}
use Rattle.vs_slots.specs.Terms.{TermsFire}
use Rattle.vs_slots.proofs.KeptLemmas.{terms_in}
use Rattle.vs_slots.proofs.slots.Slots.firing_slots.Goals as goal

pub returns : goal.returns
returns c =
    let f = c.self.inside.facts.now in
    let x = c.self.inside.firing in
    IfOk-weaker c.of_terms.result
    (λ all. (r : ℕ) → (Contains all.items r ↔ AreTermsIn f x c.args.terms.now r))
    (λ all. (r : ℕ) → (Contains all.items r ↔ TermsFire c.args.self.now.design c.args.self.now.claims c.args.terms.now r))
    (λ all h r. subst (λ (g : Case). (Contains all.items r ↔ TermsFire g.design g.claims c.args.terms.now r)) c.self.view_is
    (let both = terms_in f x c.args.terms.now r c.self.invariant.firing_are in (λ y. both.0 ((h r).0 y), λ y. (h r).1 (both.1 y))))
    c.of_terms.ensures
