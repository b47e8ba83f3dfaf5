use Rattle.std.proofs.Common.{ℕ, ◌<◌}
use Rattle.vs_rules_of_starts.specs.Beginnings.{GivesBit}
use Rattle.vs_rules_of_starts.proofs.begins.gives_in_word.Given as goal

abbrev pub invariant-loop-place : goal.invariant-loop-place
invariant-loop-place l =
    (k : ℕ) → k < l.place → GivesBit l.design l.named l.target l.value (record { signal = l.lowest.signal; word = l.lowest.word; place = k }) → ⊥
