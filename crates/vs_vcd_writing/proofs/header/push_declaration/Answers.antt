use Rattle.vs_vcd_writing.proofs.RoomLemmas.{OnOk-from}
use Rattle.vs_vcd_writing.proofs.HeaderLemmas.{declared_whole}
use Rattle.vs_vcd_writing.proofs.header.push_declaration.Goals as goal

pub returns : goal.returns
returns c =
    OnOk-from _ _ c.push_name.result (declared_whole c.args.text.now.items _ _ _ c.args.signal.now c.args.number c.in_ok-push_shape.ensures c.in_ok-push_code.ensures) c.push_name.ensures
