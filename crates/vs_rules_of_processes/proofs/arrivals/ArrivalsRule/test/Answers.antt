use Rattle.std.proofs.Common.{ℕ, List, ◌↔◌, IsTrue, sym, ◌∙◌, ap, subst}
use Rattle.std.specs.List.{Contains}
use Rattle.vs_graph.specs.Rows.{row}
use Rattle.vs_maps.specs.Reaches.{pause_at, pause_view}
use Rattle.vs_slots.specs.Controls.{list_by}
use Rattle.vs_slots.specs.Runs.{DelayEndsBy}
use Rattle.vs_rules_of_processes.proofs.ArrivalLemmas.{event_is}
use Rattle.vs_rules_of_processes.proofs.arrivals.ArrivalsRule.test.Goals as goal

pub returns-in_ok-fires-in-Event : goal.returns-in_ok-fires-in-Event
returns-in_ok-fires-in-Event c =
    let s = c.args.self.now in
    let f = s.slots.now in
    let t = s.tables.now in
    let list = list_by s.lists.now in
    let apart = subst (λ (l : List ℕ). (IsTrue c.are_all_apart.result ↔ ((q : ℕ) → Contains c.row.result.now q →
    (r : ℕ) → DelayEndsBy list (pause_at t q) r → Contains l r → ⊥))) c.deref.ensures.value c.are_all_apart.ensures in
    event_is f.design f.claims t list c.args.i _ c.in-Event.terms.now c.row.result.now (row s.before.now c.args.i) c.in_ok-fires-in-Event.fires.items c.are_all_apart.result
    (ap pause_view (sym c.in-Event.is) ∙ c.pause.ensures) c.row.ensures c.in_ok-fires-in-Event.ensures apart
