use Rattle.std.proofs.Common.{◌≡◌, ◌⊎◌, Some}
use Rattle.vs_maps.specs.vs_rules.specs.Claims.{IsWriter, IsSecond}
use Rattle.vs_maps.specs.vs_rules.specs.Paths.{Writes}
use Rattle.vs_maps.proofs.UseLemmas.{all_written}
use Rattle.vs_rules_of_signals.proofs.Parts.{named_as}
use Rattle.vs_rules_of_signals.proofs.writers.Claimed.are_named.Goals as goal

pub returns : goal.returns
returns c =
    let x = c.args.self.now.facts.now in
    let b = c.all_writes.result in
    named_as (λ i. Writes x.design i c.args.v) (IsWriter x.design x.claims c.args.v) (IsSecond x.design x.claims c.args.v) c.writer.result c.second.result c.writer.ensures c.second.ensures b
    (all_written x.design x.charts c.maps.ensures c.args.self.now.uses.now c.args.self.now.same c.args.v (λ i. (c.writer.result ≡ Some i) ⊎ (c.second.result ≡ Some i)) b c.all_writes.ensures)
