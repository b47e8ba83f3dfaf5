use Rattle.std.proofs.Common.{rules, arith, refl, ℕ, List, ◌≡◌, ◌↔◌, Some, IsTrue, map, slice_get, subst}
use Rattle.std.proofs.lemmas.Result.{IfOk-weaker}
use Rattle.std.proofs.lemmas.Option.{slice_get_read}
use Rattle.vs_claims.specs.Facts.{AreCharts, Case}
use Rattle.vs_design.specs.declared.design.Process.{Process}
use Rattle.vs_rules.specs.Certificates.{residues_from}
use Rattle.vs_rules.specs.Claims.{WaitsForTimes}
use Rattle.vs_rules.specs.Rules.{K8}
use Rattle.vs_rules_of_processes.specs.Closed.{KeepsResidues}
use Rattle.vs_rules_of_processes.proofs.ByNumber.{told}
use Rattle.vs_rules_of_processes.proofs.Kept.{other_delays}
use Rattle.vs_rules_of_processes.proofs.delays.keeps_delays.Goals as goal

pub returns-in_default-lists : goal.returns-in_default-lists
returns-in_default-lists c =
    let f = c.args.slots.now in
    let none = subst (λ (g : Case). (lists : List (List ℕ)) → WaitsForTimes g.design g.claims c.args.i lists → ⊥) c.facts-facts.ensures c.in_default-lists.ensures in
    (λ t. other_delays f.design f.claims c.args.i none, λ k. refl)

pub returns : goal.returns
returns c =
    let f = c.args.slots.now in
    let processes : c.processes-processes.result.now ≡ f.design.processes = search rules in
    let is : slice_get f.design.processes c.args.i ≡ Some c.index-processes-i.result =
    subst (λ (ps : List Process). slice_get ps c.args.i ≡ Some c.index-processes-i.result) processes
    (slice_get_read c.processes-processes.result.now _ c.args.i c.index-processes-i.result refl (omega arith) c.index-processes-i.is) in
    let chart : slice_get f.charts c.args.i ≡ Some c.in-Some.tables.now = search rules in
    let maps = subst (λ (g : Case). AreCharts g.design g.charts) c.facts-facts.ensures c.maps.ensures in
    let has : WaitsForTimes f.design f.claims c.args.i (map residues_from c.in-Some-lists.lists.now) = search rules in
    IfOk-weaker c.keeps_residues.result
    (λ b. (IsTrue b ↔ KeepsResidues f.design f.claims c.args.i c.in-Some.tables.now c.index-processes-i.result.body c.in-Some-lists.lists.now))
    (λ b. (IsTrue b ↔ K8 f.design f.claims c.args.i))
    (λ b answer. told f.design f.claims f.charts c.args.i c.index-processes-i.result c.in-Some.tables.now
    c.in-Some-lists.lists.now b c.closed_are_kept.ensures maps is chart has answer)
    (search rules)
