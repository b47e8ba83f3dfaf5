use Rattle.std.proofs.Common.{ℕ, inl, inr, sym, ◌∙◌, ap, length, arith}
use Rattle.std.specs.declared.vec.Vec.{Vec}
use Rattle.std.specs.declared.alloc.Global.{Global}
use Rattle.vs_slots.proofs.ListLemmas.{found, missing}
use Rattle.vs_slots.proofs.controls.ControlLists.of.Goals as goal

pub returns-in-None : goal.returns-in-None
returns-in-None c =
    sym (missing c.args.self.now.controls c.args.self.now.lists.now (length c.args.self.now.controls) c.args.number c.in-None.ensures (inl (omega arith)))

pub returns-then-i-self : goal.returns-then-i-self
returns-then-i-self c =
    let here = c.in-Some.ensures in
    c.deref.ensures.value ∙ ap (λ (v : Vec ℕ Global). v.items) (sym c.index-self-i.is)
    ∙ sym (found c.args.self.now.controls c.args.self.now.lists.now c.in-Some.i c.args.number c.index-self-i.result here.2 here.0 here.1
    (omega (arith, c.if-i-self.true)) c.index-self-i.is)

pub returns-else-i-self : goal.returns-else-i-self
returns-else-i-self c =
    let here = c.in-Some.ensures in
    sym (missing c.args.self.now.controls c.args.self.now.lists.now c.in-Some.i c.args.number here.2 (inr (omega (arith, c.if-i-self.false))))
