use Rattle.vs_logic4.specs.Extensions.{filled_with_ones, filled_with_zeros}
use Rattle.vs_logic4.proofs.vector.extended.Goals as goal
use Rattle.vs_logic4.proofs.vector.extended.Goals.{then-negative, else-negative}

pub returns : goal.returns
returns c =
    elim c.if-negative.branch [
      | then-negative w ↦
          rw (w.above-is, w.low_ones.ensures, c.low_ones-2.ensures)
          (filled_with_ones c.args.signed c.args.from c.args.to c.args.plane c.requires.most c.requires.most_left c.requires.below w.if-negative.true)
      | else-negative w ↦
          rw (w.above-is, c.low_ones-2.ensures)
          (filled_with_zeros c.args.signed c.args.from c.args.to c.args.plane c.requires.below w.if-negative.false)
    ]
