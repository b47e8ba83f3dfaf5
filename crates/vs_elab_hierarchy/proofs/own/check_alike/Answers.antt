use Rattle.std.proofs.Common.{map, sym, ◌∙◌, arith}
use Rattle.vs_widths.specs.Names.{meaning_of}
use Rattle.vs_elab_signals.specs.vs_scopes.specs.Reads.{read_piece}
use Rattle.vs_scopes.specs.scopes_passes.Names.{read_path}
use Rattle.vs_elab_hierarchy.proofs.OwnLemmas.{alike_more, alike_all, unlike_told}
use Rattle.vs_elab_hierarchy.proofs.own.check_alike.Goals as goal

pub returns-then-branch : goal.returns-then-branch
returns-then-branch c = λ s at ports pieces.
    (let ps = map read_piece c.args.pieces.now in
    unlike_told (meaning_of c.args.site.known.now) ps c.args.ports.now s at.known_is ports pieces (read_path c.args.site.path.now) c.loop-port.port-index c.port-item.result c.member_fault.result at.path_is (omega arith) c.port-item.is
    (sym (c.in_ok-is_unlike.ensures ps c.in_ok-kinds.ensures) ∙ c.if-branch.true) c.member_fault.ensures)

pub loop-port-preserved : goal.loop-port-preserved
loop-port-preserved c =
    let ps = map read_piece c.args.pieces.now in
    alike_more (meaning_of c.args.site.known.now) ps c.args.ports.now c.loop-port.port-index c.port-item.result (omega arith) c.port-item.is
    (sym (c.in_ok-is_unlike.ensures ps c.in_ok-kinds.ensures) ∙ c.if-branch.false) c.loop-port.invariant

pub returns : goal.returns
returns c = λ s at ports pieces.
    alike_all (meaning_of c.args.site.known.now) (map read_piece c.args.pieces.now) c.args.ports.now s at.known_is ports pieces c.loop-port.port-index (omega arith) c.loop-port.invariant
