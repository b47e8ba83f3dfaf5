use Rattle.std.proofs.Common.{length, ap, subst, arith}
use Rattle.std.proofs.lemmas.List.{length-map}
use Rattle.vs_vcd_writing.specs.Rooms.{IsRoom}
use Rattle.vs_vcd_writing.proofs.writer.Writer.begun.Goals as goal

pub invariant_of-result : goal.invariant_of-result
invariant_of-result c =
    subst (IsRoom c.in_ok-room.room)
    (omega (arith, c.len.ensures, ap length c.in_ok-kept.ensures, length-map c.in_ok-kept.kept (λ k. k.code))) c.in_ok-room.ensures
