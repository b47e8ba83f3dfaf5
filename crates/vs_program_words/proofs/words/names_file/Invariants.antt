use Rattle.std.proofs.Common.{◌≡◌, drop, map}
use Rattle.vs_program_words.specs.FileWords.{names_file}
use Rattle.vs_program_words.proofs.words.names_file.Given as goal

abbrev pub invariant-loop-word : goal.invariant-loop-word
invariant-loop-word l = names_file l.due (map (λ w. w.now) (drop l.word-index l.words)) ≡ names_file 2 (map (λ w. w.now) l.words)
