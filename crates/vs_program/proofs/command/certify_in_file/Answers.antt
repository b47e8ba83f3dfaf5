use Rattle.vs_program.specs.passes.Kept.{without_line}
use Rattle.vs_program.proofs.Ends.{ends_lined, keeps_all}
use Rattle.vs_program.proofs.command.certify_in_file.Goals as goal

pub returns-in-Ok : goal.returns-in-Ok
returns-in-Ok g c =
    ends_lined c.args.rules c.args.kept.now.source.items c.args.top.now c.args.grain c.in-Ok.found c.write_proposed-whole.result.0 _ _ _ (rw c.deref.ensures.value at c.in-Ok.ensures.ok)
    c.write_proposed-whole.ensures c.tell_proposed.ensures

pub returns-in-Err : goal.returns-in-Err
returns-in-Err g c =
    without_line c.in-Err.fault (rw c.deref.ensures.value at c.in-Err.ensures.err) c.in-Err.ensures.before (keeps_all _) c.tell_call.ensures
