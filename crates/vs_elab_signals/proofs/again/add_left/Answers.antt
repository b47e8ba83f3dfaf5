use Rattle.std.proofs.Common.{ℕ, [], ◌∷◌, map, arith}
use Rattle.std.specs.declared.vec.Vec.{Vec}
use Rattle.std.specs.declared.alloc.Global.{Global}
use Rattle.std.proofs.lemmas.List.{map-append}
use Rattle.vs_scopes.specs.scopes_passes.Answers.{borrowed}
use Rattle.vs_elab_signals.proofs.CountingLemmas.{leaves_none, leaves_more, leaves_all}
use Rattle.vs_elab_signals.proofs.again.add_left.Goals as goal

pub loop-name-init : goal.loop-name-init
loop-name-init c ns h = leaves_none ns (borrowed c.args.again.now.items) c.args.counts.now h

pub loop-name-preserved : goal.loop-name-preserved
loop-name-preserved c ns h =
    let before = c.loop-name.invariant ns h in
    leaves_more (map (λ (n : Vec ℕ Global). n.items)) c.args.list.now c.loop-name.name-index c.name-item.result (c.name-item.result.items ∷ []) ns _ _ _ _ _ (omega arith) c.name-item.is
    (λ ys. map-append (λ (n : Vec ℕ Global). n.items) ys (c.name-item.result ∷ [])) before ((rw c.deref.ensures.value at c.in_ok-add_name_left.ensures) before.left before.counts_left)

pub returns : goal.returns
returns c ns h =
    leaves_all (map (λ (n : Vec ℕ Global). n.items)) c.args.list.now c.loop-name.name-index ns _ _ _ (omega arith) (c.loop-name.invariant ns h)
