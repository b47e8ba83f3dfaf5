use Rattle.std.proofs.Common.{ℕ, ◌↔◌, List, sym, subst}
use Rattle.std.specs.List.{Contains}
use Rattle.vs_maps.specs.vs_rules.specs.Slots.{HasWriteSlot}
use Rattle.vs_claims.specs.Facts.{Case}
use Rattle.vs_slots.proofs.KeptLemmas.{write_slots_are}
use Rattle.vs_slots.proofs.slots.Slots.write_slots.Goals as goal

pub returns : goal.returns
returns c r =
    let f = c.self.inside.facts.now in
    subst (λ (f : Case). (Contains c.row.result.now r ↔ HasWriteSlot f.design f.claims c.args.u r)) c.self.view_is
    (subst (λ (l : List ℕ). (Contains l r ↔ HasWriteSlot f.design f.claims c.args.u r)) (sym c.row.ensures)
    (write_slots_are f c.self.inside.writes c.args.u r c.self.invariant.writes_are))
