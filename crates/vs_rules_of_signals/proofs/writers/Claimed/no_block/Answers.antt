use Rattle.std.proofs.Common.{refl}
use Rattle.vs_maps.specs.vs_rules.specs.Claims.{IsBlock, IsSecond}
use Rattle.vs_maps.specs.vs_rules.specs.Paths.{Writes}
use Rattle.vs_maps.proofs.UseLemmas.{all_written}
use Rattle.vs_rules_of_signals.proofs.Parts.{blocks_as}
use Rattle.vs_rules_of_signals.proofs.writers.Claimed.no_block.Goals as goal

pub returns : goal.returns
returns c =
    let x = c.args.self.now.facts.now in
    let b = c.all_writes.result in
    blocks_as (λ j. Writes x.design j c.args.v) (IsBlock x.design x.claims) (IsSecond x.design x.claims c.args.v) c.in-Some.field-0 ((c.in-Some.ensures c.in-Some.field-0).1 refl) b
    (all_written x.design x.charts c.maps.ensures c.args.self.now.uses.now c.args.self.now.same c.args.v (λ j. IsBlock x.design x.claims j → ⊥) b c.all_writes.ensures)
