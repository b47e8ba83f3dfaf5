use Rattle.std.proofs.Common.{ℕ, ◌<◌, get_or}
use Rattle.vs_cert_roots.specs.Roots.{IsRight}
use Rattle.vs_cert_roots.proofs.roots.are_right.Given as goal

abbrev pub invariant-loop-root : goal.invariant-loop-root
invariant-loop-root l = (k : ℕ) → k < l.root-index → IsRight l.facts.design l.facts.claims l.v (get_or l.roots k 0)
