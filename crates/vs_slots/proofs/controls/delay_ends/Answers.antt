use Rattle.std.proofs.Common.{ℕ, ◌<◌, ◌↔◌, sym, subst}
use Rattle.std.specs.List.{Contains}
use Rattle.std.proofs.lemmas.Result.{IfOk-weaker}
use Rattle.vs_claims.specs.vs_maps.specs.Reaches.{places, pause_at, IsPlace}
use Rattle.vs_graph.specs.Rows.{row}
use Rattle.vs_slots.specs.Controls.{list_by}
use Rattle.vs_slots.specs.Runs.{DelayEndsBy}
use Rattle.vs_slots.proofs.controls.delay_ends.Goals as goal

pub returns : goal.returns
returns c =
    IfOk-weaker c.table_of.result
    (λ ends. (q r : ℕ) → q < c.places.result → (Contains (row ends q) r ↔ ((q < places c.args.tables.now) × IsPlace c.args.tables.now q
    × DelayEndsBy (list_by c.args.lists.now) (pause_at c.args.tables.now q) r)))
    (λ ends. (q r : ℕ) → q < places c.args.tables.now → (Contains (row ends q) r ↔ (IsPlace c.args.tables.now q
    × DelayEndsBy (list_by c.args.lists.now) (pause_at c.args.tables.now q) r)))
    (λ ends h q r within. let both = h q r (subst (λ (n : ℕ). q < n) (sym c.places.ensures) within) in
    (λ x. let y = both.0 x in (y.1, y.2), λ y. both.1 (within, y.0, y.1)))
    c.table_of.ensures.exact
