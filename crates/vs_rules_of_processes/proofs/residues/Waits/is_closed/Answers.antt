use Rattle.std.proofs.Common.{◌↔◌, IsTrue, refl}
use Rattle.std.proofs.lemmas.Bool.{false≢true}
use Rattle.std.proofs.lemmas.Result.{IfOk-weaker}
use Rattle.vs_rules.specs.Claims.{is_wide}
use Rattle.vs_rules_of_processes.specs.Closed.{EndsWell, StartsWell}
use Rattle.vs_rules_of_processes.proofs.residues.Waits.is_closed.Goals as goal

pub returns-then-not-starts_well : goal.returns-then-not-starts_well
returns-then-not-starts_well c = (λ t. absurd (false≢true t), λ y. c.if-not-starts_well.ensures.1 y.0)

pub returns : goal.returns
returns c =
    let s = c.args.self.now in
    let f = s.slots.now in
    let t = s.tables.now in
    IfOk-weaker c.ends_well.result
    (λ b. (IsTrue b ↔ EndsWell f.design f.claims s.process t c.args.place c.args.ticks c.args.list.now s.modulus))
    (λ b. (IsTrue b ↔ (StartsWell (is_wide f.claims) t c.args.place c.args.ticks c.args.list.now s.modulus × EndsWell f.design f.claims s.process t c.args.place c.args.ticks c.args.list.now s.modulus)))
    (λ b h. (λ x. (c.if-not-starts_well.ensures.0 refl, h.0 x), λ y. h.1 y.1))
    c.ends_well.ensures
