use Rattle.std.proofs.Common.{◌≡◌, ◌++◌, map, drop}
use Rattle.vs_widths.specs.Names.{by_bytes}
use Rattle.vs_scopes.specs.scopes_passes.Parts.{read_given}
use Rattle.vs_elab_constants.specs.passes.Finding.{found_constants}
use Rattle.vs_elab_constants.proofs.finding.push_found.Given as goal

abbrev pub invariant-loop-number : goal.invariant-loop-number
invariant-loop-number l = by_bytes l.constants.items ++ found_constants (map read_given (drop l.number l.list)) (drop l.number l.values) ≡ by_bytes l.fn.constants.items ++ found_constants (map read_given l.list) l.values
