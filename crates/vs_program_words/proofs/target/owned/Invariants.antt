use Rattle.std.proofs.Common.{◌≡◌, take}
use Rattle.std.specs.Prelude.{map}
use Rattle.vs_scopes.specs.Reads.{read_names}
use Rattle.vs_program_words.proofs.target.owned.Given as goal

abbrev pub invariant-loop-name : goal.invariant-loop-name
invariant-loop-name l = map (λ n. n.items) l.list.items ≡ read_names (take l.name-index l.names)
