use Rattle.std.proofs.Common.{◌≡◌, ℕ, ◌<◌, ◌↔◌, IsTrue, Some, List, slice_get, sym, ◌∙◌, subst}
use Rattle.std.proofs.lemmas.Bool.{false≢true}
use Rattle.vs_design.specs.declared.statement.EventTerm.{EventTerm}
use Rattle.vs_claims.specs.Facts.{Case}
use Rattle.vs_rules.specs.Claims.{IsEdge}
use Rattle.vs_rules_of_processes.specs.declared.edges.Term.{Term}
use Rattle.vs_rules_of_processes.specs.EdgePlaces.{AreKnown, IsPair}
use Rattle.vs_rules_of_processes.proofs.EdgeLemmas.{pairs_are, places_are, waits_are}
use Rattle.vs_rules_of_processes.proofs.edges.places_keep.Goals as goal

pub returns-then-not-waiting : goal.returns-then-not-waiting
returns-then-not-waiting c =
    let f = c.args.slots.now in
    let kind = subst (λ (g : Case). (IsTrue c.is_edge.result ↔ IsEdge g.design g.claims c.args.i)) c.facts.ensures c.is_edge.ensures in
    let points = waits_are f.design f.claims c.args.i c.args.tables.now c.is_edge.result kind in
    (λ t. absurd (false≢true t), λ m. sym c.if-not-waiting.true ∙ c.in_ok-waiting.ensures.1 (λ p l. points.1 m.waits p))

pub returns-then-not-all_pair : goal.returns-then-not-all_pair
returns-then-not-all_pair c =
    let f = c.args.slots.now in
    let t = c.args.tables.now in
    let paired = c.all_pair.result in
    let all = subst (λ (l : List EventTerm). AreKnown f.design f.claims l c.in_ok-known.known.items) c.deref.ensures.value c.in_ok-known.ensures in
    let pairs = subst (λ (l : List Term). (IsTrue paired ↔ ((j : ℕ) (a : Term) → slice_get l j ≡ Some a → (k : ℕ) (b : Term) → slice_get l k ≡ Some b → IsPair a b))) c.deref-2.ensures.value
    c.all_pair.ensures in
    let are = pairs_are f.design f.claims t c.in_ok-terms.terms.items c.in_ok-known.known.items paired c.in_ok-terms.ensures all pairs in
    (λ h. absurd (false≢true h), λ m. sym c.if-not-all_pair.true ∙ are.1 (record { one_signal = m.one_signal; apart = m.apart }))

pub returns : goal.returns
returns c =
    let f = c.args.slots.now in
    let t = c.args.tables.now in
    let kind = subst (λ (g : Case). (IsTrue c.is_edge.result ↔ IsEdge g.design g.claims c.args.i)) c.facts.ensures c.is_edge.ensures in
    let points = waits_are f.design f.claims c.args.i t c.is_edge.result kind in
    let waits = points.0 (λ p place. c.in_ok-waiting.ensures.0 c.if-not-waiting.false p (subst (λ (n : ℕ). p < n) (sym c.places.ensures) (c.leads_in.ensures.points p place)) place) in
    let paired = c.all_pair.result in
    let all = subst (λ (l : List EventTerm). AreKnown f.design f.claims l c.in_ok-known.known.items) c.deref.ensures.value c.in_ok-known.ensures in
    let pairs = subst (λ (l : List Term). (IsTrue paired ↔ ((j : ℕ) (a : Term) → slice_get l j ≡ Some a → (k : ℕ) (b : Term) → slice_get l k ≡ Some b → IsPair a b))) c.deref-2.ensures.value
    c.all_pair.ensures in
    let are = pairs_are f.design f.claims t c.in_ok-terms.terms.items c.in_ok-known.known.items paired c.in_ok-terms.ensures all pairs in
    places_are f.design f.claims c.args.i t c.in_ok-apart.apart waits (are.0 c.if-not-all_pair.false) c.in_ok-apart.ensures
