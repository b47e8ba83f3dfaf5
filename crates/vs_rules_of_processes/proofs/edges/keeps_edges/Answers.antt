use Rattle.std.proofs.Common.{◌↔◌, true, IsTrue, refl, sym, subst}
use Rattle.std.proofs.lemmas.Bool.{false≢true}
use Rattle.vs_rules.specs.Rules.{K7}
use Rattle.vs_claims.specs.Facts.{Case}
use Rattle.vs_rules_of_processes.specs.EdgePlaces.{K7_Places}
use Rattle.vs_rules_of_processes.proofs.EdgeLemmas.{edges_chart, kept_edges, other_edges}
use Rattle.vs_rules_of_processes.proofs.edges.keeps_edges.Goals as goal

pub returns-then-not-waits_for_edges : goal.returns-then-not-waits_for_edges
returns-then-not-waits_for_edges c = record {
  exact = subst (λ (f : Case). (IsTrue true ↔ K7 f.design f.claims c.args.i)) c.facts-facts.ensures
      (λ t. other_edges c.facts-facts.result.now.design c.facts-facts.result.now.claims c.args.i (λ e. false≢true (c.if-not-waits_for_edges.ensures.1 e)), λ k. refl);
}

pub returns-in-None : goal.returns-in-None
returns-in-None c = record {
  exact = subst (λ (f : Case). (IsTrue true ↔ K7 f.design f.claims c.args.i)) c.facts-facts.ensures
      (λ t. absurd (edges_chart c.facts-facts.result.now c.args.i c.maps.ensures (sym c.in-None.ensures) (c.if-not-waits_for_edges.ensures.0 refl)), λ k. refl);
}

pub returns-in_ok-kept-in-Some : goal.returns-in_ok-kept-in-Some
returns-in_ok-kept-in-Some c =
    let f = c.facts-facts.result.now in
    let t = c.in-Some.tables.now in
    let b = c.in_ok-kept-in-Some.kept in
    let both = kept_edges f c.args.i t c.maps.ensures (sym c.in-Some.ensures) (c.if-not-waits_for_edges.ensures.0 refl) in
    let kept = subst (λ (g : Case). (IsTrue b ↔ K7_Places g.design g.claims c.args.i t)) (sym c.facts-facts.ensures) c.in_ok-kept-in-Some.ensures in record {
      exact = subst (λ (g : Case). (IsTrue b ↔ K7 g.design g.claims c.args.i)) c.facts-facts.ensures (λ h. both.0 (kept.0 h), λ k. kept.1 (both.1 k));
    }
