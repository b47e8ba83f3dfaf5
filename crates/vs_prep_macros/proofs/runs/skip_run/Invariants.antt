use Rattle.std.proofs.Common.{◌≡◌, ◌≤◌, length}
use Rattle.vs_lexer.specs.Bytes.{after_run}
use Rattle.vs_prep_macros.specs.Classes.{in_class}
use Rattle.vs_prep_macros.proofs.runs.skip_run.Given as goal

abbrev pub invariant-loop-rest : goal.invariant-loop-rest
invariant-loop-rest l = (after_run (in_class l.class) l.rest ≡ after_run (in_class l.class) l.bytes) × (length l.rest ≤ length l.bytes)

abbrev pub decreases-loop-rest : goal.decreases-loop-rest
decreases-loop-rest l = length l.rest
