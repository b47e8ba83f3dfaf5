use Rattle.std.proofs.Common.{◌↔◌, false, IsTrue, refl}
use Rattle.std.proofs.lemmas.Result.{IfOk-weaker}
use Rattle.vs_drivers.specs.vs_maps.specs.Reaches.{InSlot0}
use Rattle.vs_rules_of_starts.specs.Beginnings.{BeginsAt, WritesAt}
use Rattle.vs_rules_of_starts.proofs.BeginningLemmas.{asked}
use Rattle.vs_rules_of_starts.proofs.begins.WritesAloneRule.test.Goals as goal

pub returns : goal.returns
returns c =
    let x = c.args.self.now.begins in
    IfOk-weaker c.test.result (λ b. (IsTrue b ↔ BeginsAt x.design.now x.named.now x.g x.tables.now c.args.i))
    (λ b. (IsTrue b ↔ (InSlot0 false x.tables.now c.args.i → WritesAt x.tables.now x.g c.args.i → BeginsAt x.design.now x.named.now x.g x.tables.now c.args.i)))
    (asked (InSlot0 false x.tables.now c.args.i) (WritesAt x.tables.now x.g c.args.i) (BeginsAt x.design.now x.named.now x.g x.tables.now c.args.i)
    (c.if-not-is_slot0.ensures.0 refl) (c.if-not-writes_at.ensures.0 refl))
    c.test.ensures
