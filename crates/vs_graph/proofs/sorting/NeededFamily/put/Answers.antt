use Rattle.std.proofs.Common.{◌++◌, List, ℕ, length, refl, sym, ap, ◌∙◌, arith}
use Rattle.std.specs.declared.vec.Vec.{Vec}
use Rattle.std.specs.declared.alloc.Global.{Global}
use Rattle.std.proofs.lemmas.Option.{slice_get_read}
use Rattle.vs_graph.proofs.Sorts.{needs_put, needs_past}
use Rattle.vs_graph.proofs.sorting.NeededFamily.put.Goals as goal

pub returns-then-i-self : goal.returns-then-i-self
returns-then-i-self c = needs_past c.args.self.now.needs.now c.args.i c.args.out.now.items (omega (arith, c.if-i-self.true))

pub returns : goal.returns
returns c =
    let needs = c.args.self.now.needs.now in
    needs_put needs c.args.i c.index-self-i.result c.args.out.now.items c.extend_from_slice.new.self.items
    (slice_get_read needs (length needs) c.args.i c.index-self-i.result refl (omega (arith, c.if-i-self.false)) c.index-self-i.is)
    (c.in_ok-extend_from_slice.ensures.items ∙ ap (λ (l : List ℕ). c.args.out.now.items ++ l) c.deref.ensures.value
    ∙ ap (λ (v : Vec ℕ Global). c.args.out.now.items ++ v.items) (sym c.index-self-i.is))
