use Rattle.std.proofs.Common.{inr}
use Rattle.vs_program.proofs.Ends.{ends_meant, keeps_all}
use Rattle.vs_program.proofs.command.answer_text.Goals as goal

pub returns-in-Ok : goal.returns-in-Ok
returns-in-Ok g c =
    let found = c.with_target-resolved in
    ends_meant _ c.args.kept.now.source.items c.args.call found.result _ _ _ found.ensures.outputs
    (found.ensures.meant c.args.kept.now.source.items (rw c.deref.ensures.value at c.in-Ok.ensures.ok)) c.answer_kept.ensures

pub returns-in-Err : goal.returns-in-Err
returns-in-Err g c = inr (c.in-Err.fault, rw c.deref.ensures.value at c.in-Err.ensures.err, keeps_all _, c.tell_target.ensures)
