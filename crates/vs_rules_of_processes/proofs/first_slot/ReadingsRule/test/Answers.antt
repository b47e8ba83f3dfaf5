use Rattle.std.proofs.Common.{◌↔◌, Bool, IsTrue, refl, subst}
use Rattle.std.proofs.lemmas.Result.{IfOk-weaker}
use Rattle.vs_maps.specs.vs_rules.specs.Claims.{is_wide}
use Rattle.vs_drivers.specs.vs_maps.specs.Reaches.{InSlot0}
use Rattle.vs_rules_of_processes.specs.FirstSlot.{ReadsOwn}
use Rattle.vs_rules_of_processes.proofs.SlotLemmas.{some_reads}
use Rattle.vs_rules_of_processes.proofs.first_slot.ReadingsRule.test.Goals as goal

pub returns : goal.returns
returns c =
    let k = c.args.self.now.slot.now in
    let t = c.args.self.now.tables.now in
    let p = c.args.i in
    let early = subst (λ (wide : Bool). InSlot0 wide t p) c.is_wide.ensures (c.if-not-is_slot0.ensures.0 refl) in
    IfOk-weaker c.reads_own.result (λ b. (IsTrue b ↔ ReadsOwn k.design k.claims c.args.self.now.process t p)) (λ b. (IsTrue b ↔ (InSlot0 (is_wide k.claims) t p → ReadsOwn k.design k.claims c.args.self.now.process t p)))
    (λ b h. some_reads (InSlot0 (is_wide k.claims) t p) (ReadsOwn k.design k.claims c.args.self.now.process t p) b early h) c.reads_own.ensures
