use Rattle.std.proofs.Common.{◌≡◌, ◌++◌, ◌∷◌, []}
use Rattle.vs_design.specs.Tables.{rows}
use Rattle.vs_run_active.specs.Words.{changed_before}
use Rattle.vs_run_active.proofs.words.note.Given as goal

abbrev pub invariant-loop-word : goal.invariant-loop-word
invariant-loop-word l = rows l.lists.items ≡ changed_before (λ list. list ++ l.watcher ∷ []) l.word (rows l.fn.lists.items)
