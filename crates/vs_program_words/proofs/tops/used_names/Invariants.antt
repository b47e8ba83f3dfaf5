use Rattle.std.proofs.Common.{◌≡◌, take}
use Rattle.vs_scopes.specs.Reads.{read_names}
use Rattle.vs_program_words.specs.Tops.{used_by}
use Rattle.vs_program_words.proofs.tops.used_names.Given as goal

abbrev pub invariant-loop-module : goal.invariant-loop-module
invariant-loop-module l = read_names l.names.items ≡ used_by (take l.module-index l.modules)
