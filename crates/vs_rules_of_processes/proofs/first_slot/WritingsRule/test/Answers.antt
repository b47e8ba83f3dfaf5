use Rattle.std.proofs.Common.{◌↔◌, Bool, IsTrue, refl, subst}
use Rattle.std.proofs.lemmas.Result.{IfOk-weaker}
use Rattle.vs_drivers.specs.vs_maps.specs.Ranges.{now_at}
use Rattle.vs_maps.specs.vs_rules.specs.Claims.{is_wide}
use Rattle.vs_drivers.specs.vs_maps.specs.Reaches.{InPrologue}
use Rattle.vs_rules_of_processes.specs.FirstSlot.{NoneHangs}
use Rattle.vs_rules_of_processes.proofs.SlotLemmas.{some_reads}
use Rattle.vs_rules_of_processes.proofs.first_slot.WritingsRule.test.Goals as goal

pub returns : goal.returns
returns c =
    let k = c.args.self.now.slot.now in
    let t = c.args.self.now.tables.now in
    let p = c.args.i in
    let first = subst (λ (wide : Bool). InPrologue wide t p) c.is_wide.ensures (c.if-not-is_prologue.ensures.0 refl) in
    IfOk-weaker c.is_untouched.result (λ b. (IsTrue b ↔ NoneHangs k.design k.claims (now_at t p))) (λ b. (IsTrue b ↔ (InPrologue (is_wide k.claims) t p → NoneHangs k.design k.claims (now_at t p))))
    (λ b h. some_reads (InPrologue (is_wide k.claims) t p) (NoneHangs k.design k.claims (now_at t p)) b first h) c.is_untouched.ensures
