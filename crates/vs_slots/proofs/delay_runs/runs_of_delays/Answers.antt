use Rattle.std.proofs.Common.{◌≡◌, ℕ, ◌<◌, ◌≤◌, Bool, Some, List, length, map, get_or, slice_get, ◌∙◌, ap, subst, arith}
use Rattle.std.specs.Prelude.{IfOk}
use Rattle.std.proofs.lemmas.Option.{same_Some, slice_get-get_or}
use Rattle.std.proofs.lemmas.Result.{IfOk-weaker}
use Rattle.vs_design.specs.declared.design.Process.{Process}
use Rattle.vs_design.specs.Parts.{Parts}
use Rattle.vs_maps.specs.vs_rules.specs.Certificates.{residues_from}
use Rattle.vs_maps.specs.vs_rules.specs.Claims.{is_wide}
use Rattle.vs_maps.specs.vs_rules.specs.Controls.{controls_in, list_of}
use Rattle.vs_claims.specs.vs_maps.specs.declared.along.Along.TheVariants.{Plain}
use Rattle.vs_claims.specs.vs_maps.specs.Reaches.{Chart, IsPlace, places}
use Rattle.vs_slots.specs.Kept.{RunsWhere}
use Rattle.vs_slots.specs.Runs.{AreRunsBy, DelayEndsBy, DelayPauseEnds}
use Rattle.vs_slots.proofs.KeptLemmas.{listed_are, no_runs, past_times}
use Rattle.vs_slots.proofs.delay_runs.runs_of_delays.Goals as goal

pub returns-then-i-processes : goal.returns-then-i-processes
returns-then-i-processes c =
    let f = c.args.facts.now in
    let past = subst (λ (l : List Process). length l ≤ c.args.i) (c.processes-processes.ensures ∙ ap (λ (d : Parts). d.processes) c.design.ensures) (omega (arith, c.if-i-processes.true)) in
    no_runs DelayPauseEnds f c.args.i c.none.result c.none.ensures.before (λ pause r y. past_times f.design f.claims c.args.i y.0 past y.1)

pub returns-in_default-lists : goal.returns-in_default-lists
returns-in_default-lists c =
    no_runs DelayPauseEnds c.args.facts.now c.args.i c.none-in_default-lists.result c.none-in_default-lists.ensures.before (λ pause r y. c.in_default-lists.ensures y.0 y.1)

pub returns : goal.returns
returns c =
    let f = c.args.facts.now in
    let i = c.args.i in
    let q = get_or c.processes-processes.result.now i c.index-processes-i.result in
    let lists = map residues_from c.in-Some-lists.lists.now in
    let is : slice_get f.design.processes i ≡ Some q =
    subst (λ (l : List Process). slice_get l i ≡ Some q) (c.processes-processes.ensures ∙ ap (λ (d : Parts). d.processes) c.design.ensures)
    (slice_get-get_or c.processes-processes.result.now i c.index-processes-i.result (omega (arith, c.if-i-processes.false))) in
    IfOk-weaker c.runs_by_lists.result
    (λ x. AreRunsBy (Plain (is_wide f.claims)) (DelayEndsBy (list_of (controls_in q.body) lists)) c.in-Some.tables.now x.before x.ends)
    (λ x. RunsWhere DelayPauseEnds f i x)
    (λ x h t chart.
    let same = same_Some c.in-Some.tables.now t (c.in-Some.ensures ∙ chart) in
    listed_are f i q t lists x.before x.ends (subst (λ (s : Chart). (p : ℕ) → IsPlace s p → p < places s) same c.leads_in.ensures.points) is c.in-Some-lists.ensures
    (subst (λ (s : Chart). AreRunsBy (Plain (is_wide f.claims)) (DelayEndsBy (list_of (controls_in q.body) lists)) s x.before x.ends) same h))
    (subst (λ (wide : Bool). IfOk c.runs_by_lists.result (λ x. AreRunsBy (Plain wide) (DelayEndsBy (list_of (controls_in q.body) lists)) c.in-Some.tables.now x.before x.ends))
    c.is_wide.ensures c.runs_by_lists.ensures)
