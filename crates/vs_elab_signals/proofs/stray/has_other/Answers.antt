use Rattle.std.proofs.Common.{ℕ, List, ◌∙◌, not, map, ap, sym, arith}
use Rattle.std.specs.List.{list_any}
use Rattle.std.specs.Str.{bytes_eq}
use Rattle.std.specs.declared.vec.Vec.{Vec}
use Rattle.std.specs.declared.alloc.Global.{Global}
use Rattle.std.proofs.lemmas.List.{drop_all}
use Rattle.vs_elab_signals.specs.passes.Strays.{has_other_name}
use Rattle.vs_elab_signals.proofs.StrayLemmas.{any_here, any_later}
use Rattle.vs_elab_signals.proofs.stray.has_other.Goals as goal

pub returns-then-not-has : goal.returns-then-not-has
returns-then-not-has c ns s =
    sym (c.loop-name.invariant ns s ∙ any_here (λ m. not (list_any (bytes_eq m) ns)) (λ (n : Vec ℕ Global). n.items) c.args.list.now c.loop-name.name-index c.name-item.result (omega arith) c.name-item.is
    (ap not (sym ((rw c.deref.ensures.value at c.has.ensures) ns s) ∙ c.if-not-has.true)))

pub loop-name-preserved : goal.loop-name-preserved
loop-name-preserved c ns s =
    c.loop-name.invariant ns s ∙ any_later (λ m. not (list_any (bytes_eq m) ns)) (λ (n : Vec ℕ Global). n.items) c.args.list.now c.loop-name.name-index c.name-item.result (omega arith) c.name-item.is
    (ap not (sym ((rw c.deref.ensures.value at c.has.ensures) ns s) ∙ c.if-not-has.false))

pub returns : goal.returns
returns c ns s =
    sym (c.loop-name.invariant ns s ∙ ap (λ (z : List (Vec ℕ Global)). has_other_name ns (map (λ (n : Vec ℕ Global). n.items) z)) (drop_all c.loop-name.name-index c.args.list.now (omega arith)))
