use Rattle.std.proofs.Common.{◌≡◌, drop}
use Rattle.vs_process.specs.Steps.{item_matches}
use Rattle.vs_process.specs.Landings.{start_where}
use Rattle.vs_process.proofs.choices.start_matching.Given as goal

abbrev pub invariant-loop-i : goal.invariant-loop-i
invariant-loop-i l =
    start_where (item_matches l.kind l.digits l.store l.time) (drop l.i l.items) (drop l.i l.starts)
    ≡ start_where (item_matches l.kind l.digits l.store l.time) l.items l.starts
