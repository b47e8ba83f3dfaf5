use Rattle.std.proofs.Common.{ℕ, ◌↔◌, List, ◌∙◌, subst}
use Rattle.std.specs.List.{Contains}
use Rattle.vs_claims.specs.vs_maps.specs.Reaches.{IsPlace, pause_at}
use Rattle.vs_graph.specs.Rows.{row}
use Rattle.vs_slots.specs.Runs.{DelayEndsBy}
use Rattle.vs_slots.proofs.ListLemmas.{list_for}
use Rattle.vs_slots.proofs.delay_runs.runs_by_lists.Goals as goal

pub returns : goal.returns
returns c = record {
  before_are = c.in_ok-before.ensures.exact;
  ends_are = λ q r within.
      subst (λ (list : ℕ → List ℕ). (Contains (row c.in_ok-ends.ends q) r ↔ (IsPlace c.args.tables.now q
      × DelayEndsBy list (pause_at c.args.tables.now q) r)))
      (c.new-lists.ensures ∙ list_for c.args.lists.now (c.deref.ensures.value ∙ c.in_ok-controls.ensures))
      (c.in_ok-ends.ensures q r within);
}
