use Rattle.std.proofs.Common.{ℕ, ◌↔◌, true, IsTrue, refl, sym, subst}
use Rattle.std.proofs.lemmas.Bool.{false≢true}
use Rattle.vs_rules.specs.Rules.{K9}
use Rattle.vs_claims.specs.vs_maps.specs.Reaches.{IsPlace}
use Rattle.vs_claims.specs.Facts.{Case}
use Rattle.vs_rules_of_processes.specs.ReadingPlaces.{MayReadAt}
use Rattle.vs_rules_of_processes.proofs.ReadingLemmas.{kept_readings, other_readings, reader_chart}
use Rattle.vs_rules_of_processes.proofs.readings.keeps_readings.Goals as goal

pub returns-then-not-is_sequential : goal.returns-then-not-is_sequential
returns-then-not-is_sequential c = record {
  exact = subst (λ (f : Case). (IsTrue true ↔ K9 f.design f.claims c.args.i)) c.facts-facts.ensures
      (λ t. other_readings c.facts-facts.result.now.design c.facts-facts.result.now.claims c.args.i (λ e. false≢true (c.if-not-is_sequential.ensures.1 e)), λ k. refl);
}

pub returns-in-None : goal.returns-in-None
returns-in-None c = record {
  exact = subst (λ (f : Case). (IsTrue true ↔ K9 f.design f.claims c.args.i)) c.facts-facts.ensures
      (λ t. absurd (reader_chart c.facts-facts.result.now c.args.i c.maps.ensures (sym c.in-None.ensures) (c.if-not-is_sequential.ensures.0 refl)), λ k. refl);
}

pub returns-in_ok-all-in-Some : goal.returns-in_ok-all-in-Some
returns-in_ok-all-in-Some c =
    let f = c.facts-facts.result.now in
    let t = c.in-Some.tables.now in
    let b = c.in_ok-all-in-Some.all in
    let both = kept_readings f c.args.i t c.maps.ensures (sym c.in-Some.ensures) (c.if-not-is_sequential.ensures.0 refl) in
    let kept = subst (λ (g : Case). (IsTrue b ↔ ((p : ℕ) → IsPlace t p → MayReadAt g.design g.claims c.args.i t p))) (sym c.facts-facts.ensures) c.in_ok-all-in-Some.ensures in record {
      exact = subst (λ (g : Case). (IsTrue b ↔ K9 g.design g.claims c.args.i)) c.facts-facts.ensures (λ h. both.0 (kept.0 h), λ k. kept.1 (both.1 k));
    }
