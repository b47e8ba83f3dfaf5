use Rattle.std.proofs.Common.{◌≡◌, map, take}
use Rattle.vs_design.specs.Drivers.{undriven_word}
use Rattle.vs_design.proofs.store.undriven_words.Given as goal

abbrev pub invariant-loop-signal : goal.invariant-loop-signal
invariant-loop-signal l = l.words.items ≡ map undriven_word (take l.signal-index l.signals)
