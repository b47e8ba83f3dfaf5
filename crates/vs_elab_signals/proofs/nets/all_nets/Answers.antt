use Rattle.std.proofs.Common.{◌≡◌, map, take, ap, subst, ◌∙◌, arith}
use Rattle.std.specs.List.{flat_map}
use Rattle.vs_elab_signals.specs.vs_scopes.specs.Uses.{names_used}
use Rattle.vs_elab_signals.specs.vs_scopes.specs.Reads.{read_piece}
use Rattle.vs_scopes.specs.scopes_passes.Answers.{borrowed}
use Rattle.vs_elab_signals.specs.nets_passes.Nets.{AddsNets}
use Rattle.vs_elab_signals.proofs.NetLemmas.{made_none, made_more, made_all}
use Rattle.vs_elab_signals.proofs.nets.all_nets.Goals as goal

pub loop-piece-init : goal.loop-piece-init
loop-piece-init c = λ ss s a. rw (c.new-used.ensures, c.new-all.ensures.items) (made_none c.args.text.now s.sight c.args.pieces.now)

pub loop-piece-preserved : goal.loop-piece-preserved
loop-piece-preserved c = λ ss s a.
    (let ps = c.args.pieces.now in
    let i = c.loop-piece.piece-index in
    let x = c.piece-item.result in
    let m = c.loop-piece.invariant ss s a in
    let before = flat_map names_used (map read_piece (take i ps)) in
    let names : borrowed c.deref.result.now ≡ names_used (read_piece x) = ap borrowed c.deref.ensures.value ∙ c.in_ok-names.ensures in
    let adds = subst (λ z. AddsNets c.args.text.now s.sight before z c.add_nets.new.used c.loop-piece.all.items c.add_nets.new.pieces.items) names (c.in_ok-add_nets.ensures ss s before a m.used) in
    made_more c.args.text.now s.sight ps i x c.loop-piece.used c.add_nets.new.used c.loop-piece.all.items c.add_nets.new.pieces.items c.push.new.self.items (omega arith) c.piece-item.is c.in_ok-push.ensures.items adds m)

pub returns : goal.returns
returns c = λ ss s a. made_all c.args.text.now s.sight c.args.pieces.now c.loop-piece.piece-index c.loop-piece.used c.loop-piece.all.items (omega arith) (c.loop-piece.invariant ss s a)
