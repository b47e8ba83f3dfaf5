use Rattle.std.proofs.Common.{refl}
use Rattle.vs_process.specs.Drafts.{op_of}
use Rattle.vs_process.proofs.Drafts.{emitted_put}
use Rattle.vs_process.proofs.Numbers.{adds_put}
use Rattle.vs_process.proofs.draft.put_statement.Goals as goal

pub returns-clause-emitted : goal.returns-clause-emitted
returns-clause-emitted c =
    emitted_put c.args.draft.now c.put.new.draft (op_of c.args.s c.args.next c.args.first c.args.second c.args.depth c.args.extra) c.args.s.now c.args.next c.args.depth c.in_ok-place.place
    c.requires.ready c.requires.next.single refl c.requires.next.fits c.in_ok-place.ensures.ops c.in_ok-place.ensures.counters c.in_ok-place.ensures.place

pub returns-clause-number : goal.returns-clause-number
returns-clause-number c =
    adds_put c.args.draft.now c.put.new.draft (op_of c.args.s c.args.next c.args.first c.args.second c.args.depth c.args.extra) c.in_ok-place.ensures.ops
