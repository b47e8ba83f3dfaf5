use Rattle.std.proofs.Common.{ℕ, ◌<◌, ◌+◌, ◌%◌, get_or}
use Rattle.std.specs.List.{Contains}
use Rattle.vs_rules_of_processes.proofs.residues.all_shifted.Given as goal

abbrev pub invariant-loop-r : goal.invariant-loop-r
invariant-loop-r l = (k : ℕ) → k < l.r-index → Contains l.list ((get_or l.from k 0 + l.ticks) % l.modulus)
