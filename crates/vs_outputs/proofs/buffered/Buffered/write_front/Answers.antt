use Rattle.std.proofs.Common.{◌∙◌, ap, take}
use Rattle.vs_outputs.proofs.Buffers.{front_gone, front_left, on_ok}
use Rattle.vs_outputs.proofs.buffered.Buffered.write_front.Goals as goal

pub returns-in-Ok-clause-bytes : goal.returns-in-Ok-clause-bytes
returns-in-Ok-clause-bytes g c =
    let self = c.args.self.now in
    let put = c.write_from-written in
    let gone = c.drop_front in
    front_gone (g.W.Write.contents self.writer) (g.W.Write.contents put.new.writer) self.gathered.items c.split_at.result.0.now c.args.count self.taken put.result.0
    c.requires.within c.requires.begun (c.split_at.ensures.front ∙ ap (take c.args.count) c.deref.ensures.value) put.ensures.bound put.ensures.bytes
    (g.W.Write.contents gone.new.self.writer) gone.new.self.gathered.items gone.new.self.taken (on_ok put.result.1 _ _ c.in-Ok.is put.ensures.all)
    (ap g.W.Write.contents gone.ensures.writer) gone.ensures.gathered gone.ensures.begun

pub returns-in-Err-clause-bytes : goal.returns-in-Err-clause-bytes
returns-in-Err-clause-bytes g c =
    let self = c.args.self.now in
    let put = c.write_from-written in
    front_left (g.W.Write.contents self.writer) (g.W.Write.contents put.new.writer) self.gathered.items c.split_at.result.0.now c.args.count self.taken put.result.0
    c.requires.within c.requires.begun (c.split_at.ensures.front ∙ ap (take c.args.count) c.deref.ensures.value) put.ensures.bound put.ensures.bytes
