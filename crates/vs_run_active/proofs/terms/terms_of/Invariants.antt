use Rattle.std.proofs.Common.{◌≡◌, ◌++◌, drop}
use Rattle.vs_run_active.specs.Terms.{terms_from}
use Rattle.vs_run_active.proofs.terms.terms_of.Given as goal

abbrev pub invariant-loop-process : goal.invariant-loop-process
invariant-loop-process l = l.terms.items ++ terms_from l.process (drop l.process l.scripts) ≡ terms_from 0 l.scripts
