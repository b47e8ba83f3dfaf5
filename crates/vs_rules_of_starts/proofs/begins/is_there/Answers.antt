use Rattle.std.proofs.Common.{List, get_or, ◌∙◌, ap, sym, subst, ◌≡◌, lt-ltb, le-ltb, ◌↔◌, IsTrue, nat_lt}
use Rattle.std.specs.List.{slice_get}
use Rattle.vs_design.specs.declared.signal.Signal.{Signal}
use Rattle.vs_rules.specs.vs_process.specs.Bits.{HasBit}
use Rattle.vs_rules_of_starts.proofs.BeginningLemmas.{at_index, word_there, word_not}
use Rattle.vs_rules_of_starts.proofs.begins.is_there.Goals as goal

pub returns-then-bit-signal : goal.returns-then-bit-signal
returns-then-bit-signal c =
    let s = get_or c.signals-signals.result.now c.args.bit.signal c.index-signals-bit.result in
    let same = sym c.index-signals-bit.is in
    subst (λ (x : Signal). (IsTrue (nat_lt c.args.bit.place x.width) ↔ HasBit c.args.design.now c.args.bit.signal c.args.bit.word c.args.bit.place)) same
    (word_there c.args.design.now c.args.bit.signal c.args.bit.word c.args.bit.place s
    (ap (λ (l : List Signal). slice_get l c.args.bit.signal) (sym c.signals-signals.ensures) ∙ at_index c.signals-signals.result.now c.args.bit.signal c.index-signals-bit.result c.if-bit-signals.false)
    (lt-ltb c.args.bit.word s.count (subst (λ (x : Signal). Rattle.std.proofs.Common.◌<◌ c.args.bit.word x.count) c.index-signals-bit.is c.if-bit-signal.true)))

pub returns-else-bit-signal : goal.returns-else-bit-signal
returns-else-bit-signal c =
    let s = get_or c.signals-signals.result.now c.args.bit.signal c.index-signals-bit.result in
    let same = sym c.index-signals-bit.is in
    subst (λ (x : Signal). (IsTrue (nat_lt c.args.bit.word x.count) ↔ HasBit c.args.design.now c.args.bit.signal c.args.bit.word c.args.bit.place)) same
    (word_not c.args.design.now c.args.bit.signal c.args.bit.word c.args.bit.place s
    (ap (λ (l : List Signal). slice_get l c.args.bit.signal) (sym c.signals-signals.ensures) ∙ at_index c.signals-signals.result.now c.args.bit.signal c.index-signals-bit.result c.if-bit-signals.false)
    (le-ltb c.args.bit.word s.count (subst (λ (x : Signal). Rattle.std.proofs.Common.◌≤◌ x.count c.args.bit.word) c.index-signals-bit.is c.if-bit-signal.false)))
