use Rattle.std.proofs.Common.{◌≡◌, ◌-◌, ◌*◌, ◌/◌, ◌%◌, ◌≤◌}
use Rattle.vs_time_wheel.proofs.Flags.{NoneFor}
use Rattle.vs_time_wheel.proofs.busy.next_flag.Given as goal

-- no slot before the word at hand is busy
abbrev pub invariant-loop-step : goal.invariant-loop-step
invariant-loop-step l = record {
  start : l.start ≡ l.from / 64;
  low : l.low ≡ l.from % 64;
  some : 1 ≤ l.step;
  none : NoneFor l.flags l.from (64 * l.step - l.from % 64);
}
