use Rattle.std.proofs.Common.{◌≡◌, drop}
use Rattle.vs_scopes.specs.Nets.{permits_after}
use Rattle.vs_elab_signals.proofs.permits.permits_after.Given as goal

abbrev pub invariant-loop-directive : goal.invariant-loop-directive
invariant-loop-directive l = permits_after l.allowed (drop l.directive-index l.directives) ≡ permits_after l.before l.directives
