use Rattle.std.proofs.Common.{◌≡◌, ℕ, List, map, drop}
use Rattle.vs_scopes.specs.vs_widths.specs.declared.bindings.Binding.TheVariants.{Pending}
use Rattle.vs_widths.specs.Names.{meaning_of}
use Rattle.vs_scopes.specs.Parameters.{with_given}
use Rattle.vs_scopes.specs.scopes_passes.Parts.{read_given}
use Rattle.vs_elab_constants.proofs.finding.bind_pending.Given as goal

abbrev pub invariant-loop-number : goal.invariant-loop-number
invariant-loop-number l = (n : List ℕ) → meaning_of l.names n ≡ with_given (λ g. Pending) (map read_given (drop l.number l.list)) (meaning_of l.fn.names) n
