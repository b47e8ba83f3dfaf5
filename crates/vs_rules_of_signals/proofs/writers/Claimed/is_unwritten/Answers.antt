use Rattle.std.proofs.Common.{◌≡◌, ◌⊎◌, inl, inr, ℕ, Some, None}
use Rattle.std.proofs.lemmas.Option.{none-some}
use Rattle.vs_maps.proofs.UseLemmas.{all_written}
use Rattle.vs_rules_of_signals.proofs.writers.Claimed.is_unwritten.Goals as goal

pub returns : goal.returns
returns c =
    let x = c.args.self.now.facts.now in
    let all = all_written x.design x.charts c.maps.ensures c.args.self.now.uses.now c.args.self.now.same c.args.v (λ (i : ℕ). (None ≡ Some i) ⊎ (None ≡ Some i)) c.all_writes.result c.all_writes.ensures in
    (λ t i w. elim (all.0 t i w) [ inl e ↦ none-some i e | inr e ↦ none-some i e ], λ none. all.1 (λ i w. absurd (none i w)))
