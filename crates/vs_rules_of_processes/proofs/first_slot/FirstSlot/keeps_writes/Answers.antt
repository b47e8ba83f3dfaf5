use Rattle.vs_maps.specs.vs_rules.specs.Claims.{is_wide}
use Rattle.vs_drivers.specs.vs_maps.specs.Ranges.{now_at}
use Rattle.vs_drivers.specs.vs_maps.specs.Reaches.{InPrologue}
use Rattle.vs_rules_of_processes.specs.FirstSlot.{NoneHangs}
use Rattle.vs_rules_of_processes.proofs.PlaceLemmas.{writes_past}
use Rattle.vs_rules_of_processes.proofs.SlotLemmas.{all_places}
use Rattle.vs_rules_of_processes.proofs.first_slot.FirstSlot.keeps_writes.Goals as goal

pub returns : goal.returns
returns c =
    let k = c.args.self.now in
    let t = c.args.tables.now in
    all_places t c.places.result (InPrologue (is_wide k.claims) t) (λ p. NoneHangs k.design k.claims (now_at t p)) c.in_ok-all.all c.places.ensures (writes_past k.design k.claims t) c.in_ok-all.ensures
