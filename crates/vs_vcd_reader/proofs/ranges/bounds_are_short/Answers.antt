use Rattle.std.proofs.Common.{◌≡◌, ◌∙◌, ◌++◌, ◌∷◌, [], ◌+◌, take, ap, subst, sym}
use Rattle.std.proofs.lemmas.List.{take_more, take_all}
use Rattle.std.proofs.lemmas.List.Elements.{All-from_recursion}
use Rattle.vs_design.specs.declared.signal.Signal.{Signal}
use Rattle.vs_vcd_lines.specs.Lines.{IsRange}
use Rattle.vs_vcd_reader.proofs.RangeLemmas.{AreShort, short_more}
use Rattle.vs_vcd_reader.proofs.ranges.bounds_are_short.Goals as goal

pub loop-signal-preserved : goal.loop-signal-preserved
loop-signal-preserved c =
    let signals = c.args.signals.now in
    let i = c.loop-signal.signal-index in
    let s = c.signal-item.result in
    let next : take (i + 1) signals ≡ take i signals ++ s ∷ [] =
    take_more signals i s c.loop-signal-test.true ∙ ap (λ (x : Signal). take i signals ++ x ∷ []) (sym c.signal-item.is) in
    subst AreShort (sym next) (short_more (take i signals) s c.loop-signal.invariant c.read_bounds.ensures)

pub returns : goal.returns
returns c =
    All-from_recursion (λ (s : Signal). IsRange s.range) c.args.signals.now
    (subst AreShort (take_all c.loop-signal.signal-index c.args.signals.now c.loop-signal-test.false) c.loop-signal.invariant)
