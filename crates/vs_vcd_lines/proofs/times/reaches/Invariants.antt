use Rattle.std.proofs.Common.{◌-◌, ◌<◌, ◌^◌}
use Rattle.vs_vcd_lines.proofs.BeginningsNumberLemmas.{IsSpan}
use Rattle.vs_vcd_lines.proofs.times.reaches.Given as goal

abbrev pub invariant-loop-low : goal.invariant-loop-low
invariant-loop-low l = record { span : IsSpan l.fn.number l.low l.high; small : l.high < 2 ^ 64 }

abbrev pub decreases-loop-low : goal.decreases-loop-low
decreases-loop-low l = 2 ^ 64 - l.low
