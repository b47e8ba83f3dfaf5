use Rattle.std.proofs.Common.{◌≡◌, ℕ, ◌<◌}
use Rattle.vs_design.specs.Stores.{word_of}
use Rattle.vs_rules_of_starts.proofs.outputs.are_same_words.Given as goal

abbrev pub invariant-loop-word : goal.invariant-loop-word
invariant-loop-word l = (w : ℕ) → w < l.word → word_of l.a l.signal w ≡ word_of l.b l.signal w
