use Rattle.std.proofs.Common.{arith, rules, refl}
use Rattle.std.specs.Prelude.{slice_index}
use Rattle.vs_vcd_writing.proofs.MarkLemmas.{mark_of_word, unmarked_words}
use Rattle.vs_vcd_writing.proofs.marks.first_mark.Goals as goal

pub returns-then-marks-word-ne0 : goal.returns-then-marks-word-ne0
returns-then-marks-word-ne0 c =
    (mark_of_word c.args.marks.now c.loop-word.word c.args.from (slice_index c.args.marks.now c.loop-word.word) refl (search rules) c.if-marks-word-ne0.true (omega arith) c.loop-word.invariant).1

pub loop-word-init : goal.loop-word-init
loop-word-init c = unmarked_words c.args.marks.now c.args.from c.skip_unmarked-word.result c.skip_unmarked-word.ensures.unmarked
