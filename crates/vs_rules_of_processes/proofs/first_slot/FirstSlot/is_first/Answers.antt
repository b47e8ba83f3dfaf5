use Rattle.std.proofs.Common.{◌≡◌, ◌⊎◌, true, false}
use Rattle.vs_maps.specs.vs_rules.specs.Claims.{IsBlock}
use Rattle.vs_drivers.specs.vs_maps.proofs.UseLemmas.{all_written}
use Rattle.vs_rules_of_processes.proofs.FirstReads.{first_is, first_not}
use Rattle.vs_rules_of_processes.proofs.first_slot.FirstSlot.is_first.Goals as goal

pub returns-then-not-all_writes : goal.returns-then-not-all_writes
returns-then-not-all_writes c =
    let x = c.self.inside.facts.now in
    first_not c.args.self.now x c.args.i c.args.v c.self.view_is
    (all_written x.design x.charts c.maps.ensures c.uses-uses.result.now c.uses-uses.ensures c.args.v (λ j. (j ≡ c.args.i) ⊎ (IsBlock x.design x.claims j → ⊥)) false c.if-not-all_writes.ensures)

pub returns : goal.returns
returns c =
    let x = c.self.inside.facts.now in
    first_is c.args.self.now x c.uses-uses.result.now c.args.i c.args.v c.all_now.result c.self.view_is c.uses-uses.ensures
    (all_written x.design x.charts c.maps.ensures c.uses-uses.result.now c.uses-uses.ensures c.args.v (λ j. (j ≡ c.args.i) ⊎ (IsBlock x.design x.claims j → ⊥)) true c.if-not-all_writes.ensures)
    c.all_now.ensures
