use Rattle.std.proofs.Common.{ℕ, List, ◌↔◌, IsTrue, sym, ◌∙◌, ap, subst}
use Rattle.std.proofs.lemmas.Result.{IfOk-weaker}
use Rattle.vs_rules.specs.Claims.{is_wide}
use Rattle.vs_maps.specs.Reaches.{pause_view}
use Rattle.vs_process.specs.Ways.{Pause}
use Rattle.vs_slots.specs.Controls.{list_by}
use Rattle.vs_rules_of_processes.specs.Closed.{EndsWell, PauseIsClosed, StartsWell}
use Rattle.vs_rules_of_processes.proofs.residues.WaitsRule.test.Goals as goal

pub returns-in-Delay : goal.returns-in-Delay
returns-in-Delay c =
    let s = c.args.self.now in
    let f = s.slots.now in
    let t = s.tables.now in
    let p = c.args.i in
    IfOk-weaker c.is_closed.result
    (λ b. (IsTrue b ↔ (StartsWell (is_wide f.claims) t p c.in-Delay.ticks c.of.result.now s.modulus × EndsWell f.design f.claims s.process t p c.in-Delay.ticks c.of.result.now s.modulus)))
    (λ b. (IsTrue b ↔ PauseIsClosed f.design f.claims s.process t (list_by s.lists.now) p _))
    (λ b h.
    subst (λ (x : Pause). (IsTrue b ↔ PauseIsClosed f.design f.claims s.process t (list_by s.lists.now) p x)) (ap pause_view (sym c.in-Delay.is) ∙ c.pause.ensures)
    (subst (λ (l : List ℕ). (IsTrue b ↔ (StartsWell (is_wide f.claims) t p c.in-Delay.ticks l f.claims.modulus × EndsWell f.design f.claims s.process t p c.in-Delay.ticks l f.claims.modulus))) c.of.ensures
    (subst (λ (m : ℕ). (IsTrue b ↔ (StartsWell (is_wide f.claims) t p c.in-Delay.ticks c.of.result.now m × EndsWell f.design f.claims s.process t p c.in-Delay.ticks c.of.result.now m))) s.modulus_is h)))
    c.is_closed.ensures
