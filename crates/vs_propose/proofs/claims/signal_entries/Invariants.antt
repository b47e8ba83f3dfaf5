use Rattle.std.proofs.Common.{◌≡◌, map, take}
use Rattle.vs_drivers.specs.vs_rules.specs.Certificates.{signal_claim}
use Rattle.vs_propose.specs.Claimed.{HasTexts, entry_of}
use Rattle.vs_propose.proofs.claims.signal_entries.Given as goal

abbrev pub invariant-loop-signal : goal.invariant-loop-signal
invariant-loop-signal l = HasTexts l.design → map signal_claim l.entries.items ≡ map entry_of (take l.signal-index l.signals)
