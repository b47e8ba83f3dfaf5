use Rattle.std.proofs.Common.{◌≡◌, ◌++◌, replicate}
use Rattle.std.specs.Prelude.{codes}
use Rattle.vs_scopes.proofs.printed.numbered_name.Given as goal

abbrev pub invariant-loop-zero : goal.invariant-loop-zero
invariant-loop-zero l = l.name.items ≡ codes "genblk" ++ replicate l._zero 48
