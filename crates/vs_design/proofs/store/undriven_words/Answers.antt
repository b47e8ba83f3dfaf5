use Rattle.std.proofs.Common.{◌++◌, ◌∷◌, [], ◌∙◌, ap}
use Rattle.vs_design.specs.Drivers.{undriven_word}
use Rattle.vs_design.proofs.LoopLemmas.{image_more, images_all}
use Rattle.vs_design.proofs.store.undriven_words.Goals as goal

pub loop-signal-preserved : goal.loop-signal-preserved
loop-signal-preserved c =
    image_more undriven_word c.args.signals.now c.loop-signal.signal-index c.signal-item.result c.loop-signal.words.items c.push.new.self.items
    c.loop-signal-test.true c.signal-item.is (c.in_ok-push.ensures.items ∙ ap (λ w. c.loop-signal.words.items ++ w ∷ []) c.undriven_word.ensures) c.loop-signal.invariant

pub returns : goal.returns
returns c =
    images_all undriven_word c.args.signals.now c.loop-signal.signal-index c.loop-signal.words.items c.loop-signal-test.false c.loop-signal.invariant
