use Rattle.std.proofs.Common.{map, ◌++◌}
use Rattle.vs_widths.specs.Names.{meaning_of, nested_names}
use Rattle.vs_scopes.specs.scopes_passes.Parts.{read_given}
use Rattle.vs_elab_constants.proofs.SearchLemmas.{IsSearched}
use Rattle.vs_elab_constants.proofs.finding.next_value.Given as goal

abbrev pub invariant-loop-number : goal.invariant-loop-number
invariant-loop-number l = IsSearched (meaning_of (l.known ++ nested_names l.outer)) (map read_given l.list) l.values l.fault l.number
