use Rattle.std.proofs.Common.{ap}
use Rattle.vs_outputs.specs.Buffers.{all_bytes, writer_of}
use Rattle.vs_program.proofs.Cuts.{finished}
use Rattle.vs_program.proofs.command.finish.Goals as goal

pub returns : goal.returns
returns g c =
    let held = c.write_out-written.new.self in
    let left = c.into_inner-out.ensures in
    finished c.args.call.now.subcommand (all_bytes g.O.Write.contents c.args.buffers.text) (all_bytes g.O.Write.contents held.text) (g.O.Write.contents (writer_of held.text))
    (g.O.Write.contents c.into_inner-out.result.0) (all_bytes g.D.Write.contents c.args.buffers.dumps.first) (all_bytes g.D.Write.contents held.dumps.first)
    (g.D.Write.contents (writer_of held.dumps.first)) (g.D.Write.contents c.into_inner-out.result.1.first) _ c.tell_end-status.result c.write_out-written.result
    c.write_out-written.ensures.text c.write_out-written.ensures.dump c.write_out-written.ensures.whole (ap g.O.Write.contents left.text) (ap g.D.Write.contents left.file)
    left.lost left.cut c.tell_end-status.ensures
