use Rattle.std.proofs.Common.{◌≡◌, Some, map, slice_get, ◌∙◌, ap, subst, refl}
use Rattle.std.proofs.lemmas.Option.{slice_get_read}
use Rattle.vs_drivers.specs.vs_rules.specs.Certificates.{signal_claim}
use Rattle.vs_drivers.specs.vs_rules.specs.Claims.{signal_name}
use Rattle.vs_propose.specs.Claimed.{entry_of}
use Rattle.vs_propose.proofs.Written.{one_written, all_written, none_written}
use Rattle.vs_propose.proofs.claims.signal_entries.Goals as goal

pub loop-signal-init : goal.loop-signal-init
loop-signal-init c = λ texts. none_written signal_claim entry_of c.signals-signals.result.now c.new-entries.result.items c.new-entries.ensures.items

pub loop-signal-preserved : goal.loop-signal-preserved
loop-signal-preserved c = λ texts.
    let at = slice_get_read _ _ _ _ refl c.loop-signal-test.true c.signal-item.is in
    let named = ap signal_name (subst (λ ss. slice_get ss c.loop-signal.signal-index ≡ Some c.signal-item.result) c.signals-signals.ensures at) in
    one_written signal_claim entry_of c.signals-signals.result.now c.loop-signal.signal-index c.signal-item.result c.loop-signal.entries.items c.push.new.self.items c.in_ok-entry.entry
    at c.in_ok-push.ensures.items (c.in_ok-entry.ensures (texts.signals c.loop-signal.signal-index c.signal-item.result.path.items named)) (c.loop-signal.invariant texts)

pub returns : goal.returns
returns c = λ texts.
    all_written signal_claim entry_of c.signals-signals.result.now c.loop-signal.signal-index c.loop-signal.entries.items c.loop-signal-test.false (c.loop-signal.invariant texts)
    ∙ ap (map entry_of) c.signals-signals.ensures
