use Rattle.std.proofs.Common.{ℕ, ap, map, arith}
use Rattle.std.specs.declared.vec.Vec.{Vec}
use Rattle.std.specs.declared.alloc.Global.{Global}
use Rattle.std.proofs.lemmas.List.{drop_all}
use Rattle.vs_scopes.proofs.PassLemmas.{map_at, moved, ended}
use Rattle.vs_elab_signals.proofs.inner.add_names.Goals as goal

pub loop-name-preserved : goal.loop-name-preserved
loop-name-preserved c =
    let n = c.name-item.result in
    moved (λ n. n.now) c.loop-name.names.items c.push.new.self.items c.deref.result n.items _ _ _ c.in_ok-push.ensures.items c.deref.ensures.value
    (map_at (λ (n : Vec ℕ Global). n.items) c.args.list.now c.loop-name.name-index n (omega arith) c.name-item.is) c.loop-name.invariant

pub returns : goal.returns
returns c = ended _ _ _ (ap (map (λ (n : Vec ℕ Global). n.items)) (drop_all c.loop-name.name-index c.args.list.now (omega arith))) c.loop-name.invariant
