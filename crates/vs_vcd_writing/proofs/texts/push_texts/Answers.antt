use Rattle.std.proofs.Common.{◌++◌, ap, ◌∙◌, arith}
use Rattle.std.proofs.lemmas.List.{take_all}
use Rattle.std.specs.List.{flat_map}
use Rattle.vs_vcd_writing.proofs.LineLemmas.{texts_more}
use Rattle.vs_vcd_writing.proofs.texts.push_texts.Goals as goal

pub loop-part-preserved : goal.loop-part-preserved
loop-part-preserved c =
    texts_more (λ part. part.now) c.args.text.now.items _ _ c.args.parts.now c.loop-part.part-index _ c.loop-part-test.true
    c.loop-part.invariant c.in_ok-extend_from_slice.ensures.items

pub returns : goal.returns
returns c = c.loop-part.invariant ∙ ap (λ l. c.args.text.now.items ++ flat_map (λ part. part.now) l) (take_all c.loop-part.part-index c.args.parts.now (omega arith))
