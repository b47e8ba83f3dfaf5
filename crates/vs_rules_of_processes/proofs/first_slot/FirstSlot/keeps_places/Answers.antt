use Rattle.std.proofs.Common.{IsTrue, arith}
use Rattle.vs_rules_of_processes.proofs.SlotLemmas.{keeps_is}
use Rattle.vs_rules_of_processes.proofs.first_slot.FirstSlot.keeps_places.Goals as goal

pub returns : goal.returns
returns c =
    let k = c.args.self.now in
    let is : IsTrue c.in_ok-reads.reads = grind (arith, c.if-not-reads.false) in
    keeps_is k.design k.claims c.args.i c.args.tables.now c.in_ok-keeps.keeps (c.in_ok-reads.ensures.0 is) c.in_ok-keeps.ensures
