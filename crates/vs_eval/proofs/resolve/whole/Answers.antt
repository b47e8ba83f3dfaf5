use Rattle.std.proofs.Common.{length, ◌∙◌, ap}
use Rattle.vs_design.specs.InOrder.{numbered_word}
use Rattle.vs_design.specs.Stores.{word_of}
use Rattle.vs_eval.proofs.CopyLemmas.{kept_whole}
use Rattle.vs_eval.proofs.WordLemmas.{operand_long, whole_means, word_alone}
use Rattle.vs_eval.proofs.resolve.whole.Goals as goal

pub returns : goal.returns
returns c = λ law.
    let signals = c.args.design.now.signals in
    let number = c.in-Some.number in
    whole_means signals c.args.e.now c.args.o number c.in-Some.size.width c.in_ok-made.made.0 c.in_ok-made.made.1.width c.in-Some.ensures
    (c.in_ok-made.ensures signals (λ store time. numbered_word store number) (word_alone signals c.args.o.signal 0 number c.in-Some.size.width c.in-Some.ensures)) law

pub returns-in_default : goal.returns-in_default
returns-in_default c =
    kept_whole c.args.e.now c.args.o.width c.args.design.now.signals _ c.other.result
    (λ law store time is. ap length (law store time) ∙ operand_long c.args.o.signed c.args.o.width (word_of store c.args.o.signal 0)) c.other.ensures
