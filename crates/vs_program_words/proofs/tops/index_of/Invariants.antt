use Rattle.std.proofs.Common.{take}
use Rattle.vs_scopes.specs.Reads.{read_names}
use Rattle.vs_program_words.specs.targets_passes.Names.{AreIndexed}
use Rattle.vs_program_words.proofs.tops.index_of.Given as goal

abbrev pub invariant-loop-name : goal.invariant-loop-name
invariant-loop-name l = AreIndexed (read_names (take l.name-index l.names)) l.index
