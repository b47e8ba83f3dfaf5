use Rattle.std.proofs.Common.{◌≡◌, ◌≤◌, length, reverse, take}
use Rattle.vs_lexer.specs.Bytes.{after_run}
use Rattle.vs_prep_macros.specs.Classes.{in_class}
use Rattle.vs_prep_macros.proofs.scan.before_run.Given as goal

abbrev pub invariant-loop-last : goal.invariant-loop-last
invariant-loop-last l = (after_run (in_class l.class) (reverse l.rest) ≡ after_run (in_class l.class) (reverse l.bytes)) × (l.rest ≡ take (length l.rest) l.bytes) × (length l.rest ≤ length l.bytes)

abbrev pub decreases-loop-last : goal.decreases-loop-last
decreases-loop-last l = length l.rest
