use Rattle.std.proofs.Common.{IfOk, rules, arith, ℕ, ◌≡◌, ◌≤◌, ◌↔◌, inr, refl, List, Some, IsTrue, length, map, slice_get, sym, subst}
use Rattle.std.proofs.lemmas.Bool.{false≢true}
use Rattle.std.proofs.lemmas.Option.{slice_get_read}
use Rattle.std.proofs.lemmas.Result.{IfOk-weaker}
use Rattle.vs_design.specs.declared.design.Process.{Process}
use Rattle.vs_claims.specs.Facts.{Case}
use Rattle.vs_rules.specs.Certificates.{residues_from}
use Rattle.vs_rules.specs.Claims.{HasMixedLists, IsMixed, WaitsForTimes}
use Rattle.vs_rules.specs.Controls.{controls_in, controls_of, list_of}
use Rattle.vs_rules_of_processes.specs.vs_slots.proofs.KeptLemmas.{past_times}
use Rattle.vs_rules_of_processes.specs.EdgePlaces.{AreArrivalsApart}
use Rattle.vs_rules_of_processes.proofs.ArrivalLemmas.{mixed_are}
use Rattle.vs_rules_of_processes.proofs.arrivals.arrives_apart.Goals as goal

pub returns-then-not-is_mixed : goal.returns-then-not-is_mixed
returns-then-not-is_mixed c = (
  λ t lists has. absurd (false≢true (c.if-not-is_mixed.ensures.1 (subst (λ (g : Case). IsMixed g.design g.claims c.args.i) (sym c.facts-facts.ensures) (lists, has)))),
  λ h. refl,
)

pub returns-then-i-processes : goal.returns-then-i-processes
returns-then-i-processes c =
    let f = c.args.slots.now in
    let processes : c.processes-processes.result.now ≡ f.design.processes = search rules in
    let past = subst (λ (l : List Process). length l ≤ c.args.i) processes (omega (arith, c.if-i-processes.true)) in
    (λ t lists has. absurd (past_times f.design f.claims c.args.i lists past (inr has)), λ h. refl)

pub returns-in_default : goal.returns-in_default
returns-in_default c =
    let none = subst (λ (g : Case). (lists : List (List ℕ)) → WaitsForTimes g.design g.claims c.args.i lists → ⊥) c.facts-facts.ensures c.in_default.ensures in
    (λ t lists has. absurd (none lists (inr has)), λ h. refl)

pub returns : goal.returns
returns c =
    let f = c.args.slots.now in
    let t = c.args.tables.now in
    let q = c.index-processes-i.result in
    let lists = map residues_from c.in-Some.lists.now in
    let processes : c.processes-processes.result.now ≡ f.design.processes = search rules in
    let is : slice_get f.design.processes c.args.i ≡ Some q =
    subst (λ (ps : List Process). slice_get ps c.args.i ≡ Some q) processes
    (slice_get_read c.processes-processes.result.now _ c.args.i q refl (omega arith) c.index-processes-i.is) in
    let kind : IsMixed f.design f.claims c.args.i = subst (λ (g : Case). IsMixed g.design g.claims c.args.i) c.facts-facts.ensures (c.if-not-is_mixed.ensures.0 refl) in
    let has : WaitsForTimes f.design f.claims c.args.i lists = subst (λ (g : Case). WaitsForTimes g.design g.claims c.args.i lists) c.facts-facts.ensures c.in-Some.ensures in
    IfOk-weaker c.are_arrivals_apart.result
    (λ b. (IsTrue b ↔ AreArrivalsApart f.design f.claims t (list_of (controls_in q.body) lists)))
    (λ b. (IsTrue b ↔ ((other : List (List ℕ)) → HasMixedLists f.design f.claims c.args.i other → AreArrivalsApart f.design f.claims t (list_of (controls_of f.design c.args.i) other))))
    (λ b h. mixed_are f.design f.claims c.args.i q t lists b is kind has h)
    (subst (λ (p : Process). IfOk c.are_arrivals_apart.result (λ b. (IsTrue b ↔ AreArrivalsApart f.design f.claims t (list_of (controls_in p.body) lists))))
    (sym c.index-processes-i.is) c.are_arrivals_apart.ensures)
