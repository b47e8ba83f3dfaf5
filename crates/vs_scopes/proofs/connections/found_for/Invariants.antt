use Rattle.std.proofs.Common.{◌≡◌, ◌++◌, map, drop}
use Rattle.vs_widths.specs.Names.{meaning_of}
use Rattle.vs_scopes.specs.passes.Ends.{borrowed, read_ends, value_under}
use Rattle.vs_scopes.proofs.connections.found_for.Given as goal

abbrev pub invariant-loop-name : goal.invariant-loop-name
invariant-loop-name l = read_ends l.ends.items ++ map (λ n. value_under (meaning_of l.given n)) (borrowed (drop l.name-index l.names)) ≡ map (λ n. value_under (meaning_of l.given n)) (borrowed l.names)
