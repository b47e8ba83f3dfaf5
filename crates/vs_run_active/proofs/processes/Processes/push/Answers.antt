use Rattle.std.proofs.Common.{◌≡◌, ◌++◌, ◌∷◌, [], cond, ℕ, Bool, ap, arith}
use Rattle.vs_run_active.specs.ListCounts.{count}
use Rattle.vs_run_active.proofs.ListCountLemmas.{count_push, fits}
use Rattle.vs_run_active.specs.ProcessPlaces.{is_active}
use Rattle.vs_run_active.proofs.processes.Processes.push.Goals as goal

pub recount-self-inside-requires-clause-room : goal.recount-self-inside-requires-clause-room
recount-self-inside-requires-clause-room c = fits is_active c.self.inside.items.items c.self.inside.going c.self.invariant (omega (arith, c.self.inside.items.ok))

pub invariant_of-self-2 : goal.invariant_of-self-2
invariant_of-self-2 c =
    let more : count is_active c.push.new.self.items ≡ count is_active (c.self.inside.items.items ++ c.args.process ∷ []) = ap (count is_active) c.in_ok-push.ensures.items in
    let pushed = count_push is_active c.self.inside.items.items c.args.process in
    let same : cond c.is_active-active.result 1 0 ≡ cond (is_active c.args.process) 1 0 = ap {B = ℕ} (λ (b : Bool). cond b 1 0) c.is_active-active.ensures in
    omega (arith, more, pushed, same, c.recount-self-inside.ensures, c.self.invariant)
