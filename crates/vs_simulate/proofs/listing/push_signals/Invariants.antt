use Rattle.std.proofs.Common.{◌≡◌, ◌++◌, drop}
use Rattle.std.specs.List.{flat_map}
use Rattle.vs_simulate.specs.Listing.{signal_line}
use Rattle.vs_simulate.proofs.listing.push_signals.Given as goal

abbrev pub invariant-loop-signal : goal.invariant-loop-signal
invariant-loop-signal l = l.text.items ++ flat_map signal_line (drop l.signal-index l.signals) ≡ l.fn.text.items ++ flat_map signal_line l.signals
