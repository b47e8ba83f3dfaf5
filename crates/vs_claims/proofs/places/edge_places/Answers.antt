use Rattle.std.proofs.Common.{◌≡◌, ℕ, Some, None, length, slice_index_or, ◌∙◌, subst}
use Rattle.vs_maps.specs.vs_graph.specs.Rows.{AreRows}
use Rattle.vs_claims.specs.facts_passes.Kept.{both_at}
use Rattle.vs_claims.proofs.places.edge_places.Goals as goal

pub returns : goal.returns
returns c =
    let ends = c.in_ok-ends.ends in
    let n = length c.args.list.now in
    record {
      ends = c.in_ok-ends.ensures;
      roots_long = c.in_ok-by_root.ensures.len ∙ c.len-signals.ensures;
      roots_are =
          subst (λ k. AreRows (λ i r. (v : ℕ) × (both_at ends i ≡ Some (r, v))) k n c.in_ok-by_root.by_root) c.len-entries.ensures
          (subst (λ k. AreRows (λ i r. (v : ℕ) × (both_at ends i ≡ Some (r, v))) c.len-entries.result k c.in_ok-by_root.by_root) c.len-signals.ensures
          c.in_ok-by_root.ensures.exact);
      signals_long = c.in_ok-by_signal.ensures.len ∙ c.len-signals.ensures;
      signals_are =
          subst (λ k. AreRows (λ i v. slice_index_or ends.signals.items i None ≡ Some v) k n c.in_ok-by_signal.by_signal) c.len-entries.ensures
          (subst (λ k. AreRows (λ i v. slice_index_or ends.signals.items i None ≡ Some v) c.len-entries.result k c.in_ok-by_signal.by_signal)
          c.len-signals.ensures c.in_ok-by_signal.ensures.exact);
    }
