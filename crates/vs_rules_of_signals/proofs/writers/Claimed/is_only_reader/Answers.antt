use Rattle.std.proofs.Common.{◌≡◌, ◌⊎◌, ℕ, Some, None}
use Rattle.vs_maps.proofs.UseLemmas.{all_read, one_alone}
use Rattle.vs_rules_of_signals.proofs.writers.Claimed.is_only_reader.Goals as goal

pub returns : goal.returns
returns c =
    let x = c.args.self.now.facts.now in
    let i = c.args.i in
    let all = all_read x.design x.charts c.maps.ensures c.args.self.now.uses.now c.args.self.now.same c.args.v (λ (j : ℕ). (Some i ≡ Some j) ⊎ (None ≡ Some j)) c.all_reads.result c.all_reads.ensures in
    (λ t j w. (one_alone i j).0 (all.0 t j w), λ only. all.1 (λ j w. (one_alone i j).1 (only j w)))
