use Rattle.std.proofs.Common.{◌≡◌, ◌++◌, take}
use Rattle.vs_scopes.specs.Reads.{read_names}
use Rattle.vs_program_words.specs.Tops.{used_among}
use Rattle.vs_program_words.proofs.tops.+uses.Given as goal

abbrev pub invariant-add_uses_among-loop-item : goal.invariant-add_uses_among-loop-item
invariant-add_uses_among-loop-item l = read_names l.names.items ≡ read_names l.fn.names.items ++ used_among (take l.item-index l.items)
