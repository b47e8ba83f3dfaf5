use Rattle.std.proofs.Common.{ℕ, List}
use Rattle.vs_scopes.specs.Reads.{read_names}
use Rattle.vs_program_words.specs.targets_passes.Names.{AreIndexed}
use Rattle.vs_program_words.proofs.TopsLemmas.{AreReported}
use Rattle.vs_program_words.proofs.tops.others_than.Given as goal

abbrev pub invariant-loop-module : goal.invariant-loop-module
invariant-loop-module l = (names : List (List ℕ)) → AreIndexed names l.fn.index → AreReported names l.modules (read_names l.tops.items) l.module-index l.left
