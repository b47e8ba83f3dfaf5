use Rattle.std.proofs.Common.{take}
use Rattle.std.specs.List.{AllByRecursion}
use Rattle.vs_design.specs.declared.signal.Signal.{Signal}
use Rattle.vs_vcd_lines.specs.Lines.{IsRange}
use Rattle.vs_vcd_reader.proofs.ranges.bounds_are_short.Given as goal

abbrev pub invariant-loop-signal : goal.invariant-loop-signal
invariant-loop-signal l = AllByRecursion (λ (s : Signal). IsRange s.range) (take l.signal-index l.signals)
