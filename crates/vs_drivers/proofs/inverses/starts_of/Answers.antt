use Rattle.std.proofs.Common.{◌≡◌, ◌<◌, ◌↔◌, ℕ, false, List, length, subst}
use Rattle.std.specs.List.{Contains}
use Rattle.std.proofs.lemmas.Result.{IfOk-weaker}
use Rattle.vs_design.specs.declared.signal.Signal.{Signal}
use Rattle.vs_drivers.specs.Inverses.{IsStart, node}
use Rattle.vs_drivers.proofs.inverses.starts_of.Goals as goal

pub returns : goal.returns
returns c =
    let d = c.args.design.now in
    IfOk-weaker c.gather.result _ _
    (λ all h k. subst (λ (ss : List Signal). (Contains all.items k ↔ ((v : ℕ) × (v < length ss) × (IsStart d v × (node (length ss) false v ≡ k))))) c.signals-count.ensures (h k))
    c.gather.ensures
