use Rattle.std.proofs.Common.{refl}
use Rattle.vs_rules.specs.Drivers.{IsSource}
use Rattle.vs_drivers.specs.vs_maps.specs.Ranges.{HasSignal}
use Rattle.vs_rules_of_starts.proofs.StartLemmas.{a_source, other_signal, false_not}
use Rattle.vs_rules_of_starts.proofs.starts.is_fine.Goals as goal

pub returns-then-is_source : goal.returns-then-is_source
returns-then-is_source c =
    a_source (IsSource c.args.facts.now.design c.args.facts.now.claims c.args.signal) (HasSignal c.args.written.now c.args.signal)
    ((c.if-is_source.ensures c.args.facts.now.design c.args.facts.now.claims c.requires).0 refl)

pub returns : goal.returns
returns c =
    other_signal (IsSource c.args.facts.now.design c.args.facts.now.claims c.args.signal) (HasSignal c.args.written.now c.args.signal)
    (λ s. false_not ((c.if-is_source.ensures c.args.facts.now.design c.args.facts.now.claims c.requires).1 s)) c.has_signal.result c.has_signal.ensures
