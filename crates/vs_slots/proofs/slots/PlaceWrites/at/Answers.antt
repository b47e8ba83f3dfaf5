use Rattle.std.proofs.Common.{ℕ, ◌↔◌, refl}
use Rattle.std.specs.List.{Contains}
use Rattle.std.proofs.lemmas.Result.{IfOk-weaker}
use Rattle.vs_slots.specs.Kept.{IsKeptRun, IsSiteWrite}
use Rattle.vs_slots.proofs.slots.PlaceWrites.at.Goals as goal

pub returns : goal.returns
returns c =
    let s = c.args.self.now in
    IfOk-weaker c.run_slots.result
    (λ list. (r : ℕ) → (Contains list.items r ↔ IsKeptRun s.delays.now s.edges.now s.writer c.args.site.place r))
    (λ list. (r : ℕ) → (Contains list.items r ↔ IsSiteWrite s.delays.now s.edges.now s.writer c.args.site r))
    (λ list h r. (λ x. (c.if-site-self.false, c.if-not-is_now.ensures.0 refl, (h r).0 x), λ y. (h r).1 y.2))
    c.run_slots.ensures
