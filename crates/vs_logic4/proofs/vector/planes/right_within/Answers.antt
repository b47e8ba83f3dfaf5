use Rattle.std.proofs.Common.{sym, ◌∙◌}
use Rattle.vs_logic4.proofs.Moves.{moved_right_plain, moved_right_filled}
use Rattle.vs_logic4.proofs.vector.planes.right_within.Goals as goal
use Rattle.vs_logic4.proofs.vector.planes.right_within.Goals.{then-negative, else-negative}

pub returns : goal.returns
returns c =
    elim c.if-negative.branch [
      | then-negative w ↦
          rw (c.moved_right.ensures, w.fill-is, w.low_ones-fill.ensures)
          (moved_right_filled c.args.signed c.args.width c.args.places c.args.plane c.requires.below (sym c.is_negative-negative.ensures ∙ w.if-negative.true))
      | else-negative w ↦
          rw (c.moved_right.ensures, w.fill-is)
          (moved_right_plain c.args.signed c.args.width c.args.places c.args.plane c.requires.below (sym c.is_negative-negative.ensures ∙ w.if-negative.false))
    ]
