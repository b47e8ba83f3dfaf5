use Rattle.std.proofs.Common.{arith}
use Rattle.vs_widths.specs.Names.{meaning_of}
use Rattle.vs_elab_constants.proofs.CountLemmas.{turns_over}
use Rattle.vs_elab_constants.proofs.counting.turns_after.Goals as goal

pub returns-then-turns-gt-TURN_LIMIT : goal.returns-then-turns-gt-TURN_LIMIT
returns-then-turns-gt-TURN_LIMIT c =
    turns_over (meaning_of c.args.names.now) c.args.pieces.now c.loop-piece.piece-index c.piece-item.result (omega arith) c.piece-item.is c.args.before c.loop-piece.turns c.in_ok-turns.field-0 c.loop-piece.invariant.same
    c.in_ok-turns.ensures.same c.if-turns-gt-TURN_LIMIT.true
