use Rattle.std.proofs.Common.{ℕ, ◌<◌, ◌∙◌, refl, subst}
use Rattle.std.proofs.lemmas.Bool.{false≢true}
use Rattle.std.proofs.lemmas.Option.{same_Some}
use Rattle.std.proofs.lemmas.Result.{IfOk-weaker}
use Rattle.vs_claims.specs.vs_maps.specs.declared.along.Along.TheVariants.{Plain}
use Rattle.vs_claims.specs.vs_maps.specs.Reaches.{Chart, IsPlace, places}
use Rattle.vs_maps.specs.vs_rules.specs.Claims.{is_wide}
use Rattle.vs_slots.specs.Kept.{RunsWhere}
use Rattle.vs_slots.specs.Runs.{AreRunsBy, EdgePauseEnds, TermsEnd}
use Rattle.vs_slots.proofs.KeptLemmas.{fired_are, no_runs}
use Rattle.vs_slots.proofs.edge_runs.runs_of_edges.Goals as goal

pub returns-then-not-waits_for_edges : goal.returns-then-not-waits_for_edges
returns-then-not-waits_for_edges c =
    let f = c.args.facts.now in
    no_runs EdgePauseEnds f c.args.i c.none.result c.none.ensures.before (λ pause r y. false≢true (c.if-not-waits_for_edges.ensures.1 y.0))

pub returns-in-Some : goal.returns-in-Some
returns-in-Some c =
    let f = c.args.facts.now in
    IfOk-weaker c.fired_runs.result
    (λ x. AreRunsBy (Plain (is_wide f.claims)) (TermsEnd f.design f.claims) c.in-Some.tables.now x.before x.ends)
    (λ x. RunsWhere EdgePauseEnds f c.args.i x)
    (λ x h t chart.
    let same = same_Some c.in-Some.tables.now t (c.in-Some.ensures ∙ chart) in
    fired_are f c.args.i t x.before x.ends (subst (λ (s : Chart). (p : ℕ) → IsPlace s p → p < places s) same c.leads_in.ensures.points) (c.if-not-waits_for_edges.ensures.0 refl)
    (subst (λ (s : Chart). AreRunsBy (Plain (is_wide f.claims)) (TermsEnd f.design f.claims) s x.before x.ends) same h))
    c.fired_runs.ensures
