use Rattle.std.proofs.Common.{◌≡◌, drop}
use Rattle.vs_rules_of_starts.specs.Settled.{put_all}
use Rattle.vs_rules_of_starts.proofs.settled.make_all.Given as goal

abbrev pub invariant-loop-j : goal.invariant-loop-j
invariant-loop-j l = put_all l.assigns (drop l.j-index l.order) l.store ≡ put_all l.assigns l.order l.fn.store
