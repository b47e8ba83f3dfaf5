use Rattle.std.proofs.Common.{◌∙◌, sym}
use Rattle.vs_design.specs.Stores.{word_of}
use Rattle.vs_rules_of_starts.proofs.OutputLemmas.{same_word}
use Rattle.vs_rules_of_starts.proofs.outputs.is_same_word.Goals as goal

pub returns-in-Some-Some : goal.returns-in-Some-Some
returns-in-Some-Some c =
    same_word (word_of c.args.a.now c.args.signal c.args.word) (word_of c.args.b.now c.args.signal c.args.word) c.in-Some-Some.one c.in-Some-Some.other c.eq.result
    (sym c.word.ensures ∙ c.in-Some-Some.is-0) (sym c.word-2.ensures ∙ c.in-Some-Some.is-1) c.eq.ensures
