use Rattle.std.proofs.Common.{◌++◌, take, subst, arith}
use Rattle.std.proofs.lemmas.List.{take_all}
use Rattle.vs_scopes.specs.scopes_passes.Answers.{borrowed}
use Rattle.vs_elab_signals.specs.nets_passes.Nets.{AddsNets}
use Rattle.vs_elab_signals.proofs.NetLemmas.{adds_none, adds_at}
use Rattle.vs_elab_signals.proofs.nets.add_nets.Goals as goal

pub loop-name-init : goal.loop-name-init
loop-name-init c = λ ss s before a k. adds_none c.args.text.now s.sight before c.args.used.now c.args.pieces.now.items k

pub loop-name-preserved : goal.loop-name-preserved
loop-name-preserved c = λ ss s before a k.
    (let ns = c.args.names.now in
    let i = c.loop-name.name-index in
    let m = c.loop-name.invariant ss s before a k in
    adds_at c.args.text.now s.sight before ns i _ c.loop-name.used c.add_net.new.used c.args.pieces.now.items c.loop-name.pieces.items c.add_net.new.pieces.items (omega arith) m (c.in_ok-add_net.ensures ss s (before ++ borrowed (take i ns)) a m.used))

pub returns : goal.returns
returns c = λ ss s before a k.
    subst (λ z. AddsNets c.args.text.now s.sight before (borrowed z) c.loop-name.used c.args.pieces.now.items c.loop-name.pieces.items) (take_all c.loop-name.name-index c.args.names.now (omega arith)) (c.loop-name.invariant ss s before a k)
