use Rattle.std.proofs.Common.{◌≡◌, map, drop}
use Rattle.vs_elab_statements.specs.Statements.{has_two_defaults}
use Rattle.vs_elab_statements.proofs.CaseLemmas.{defaults_left}
use Rattle.vs_elab_statements.proofs.cases.has_two_defaults.Given as goal

abbrev pub invariant-loop-label : goal.invariant-loop-label
invariant-loop-label l = defaults_left l.seen (map (λ x. x.0) (drop l.label-index l.items)) ≡ has_two_defaults (map (λ x. x.0) l.items)
