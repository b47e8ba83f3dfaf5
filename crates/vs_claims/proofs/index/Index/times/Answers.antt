use Rattle.std.proofs.Common.{List, ◌∙◌, ap, subst}
use Rattle.vs_rules.specs.Claims.{Name, times_in}
use Rattle.vs_claims.specs.passes.Placed.{Placed, AreBelow, AreUpTo}
use Rattle.vs_claims.proofs.IndexLemmas.{below_up_to, times_at}
use Rattle.vs_claims.proofs.index.Index.times.Goals as goal

pub overflow_sub-result : goal.overflow_sub-result
overflow_sub-result c =
    let below = subst (λ (xs : List Placed). AreBelow xs c.args.name.now c.below.result) c.deref-2.ensures.value c.below.ensures in
    let upto = subst (λ (xs : List Placed). AreUpTo xs c.args.name.now c.up_to.result) c.deref.ensures.value c.up_to.ensures in
    below_up_to c.self.inside.sorted.items c.args.name.now c.below.result c.up_to.result below upto

pub returns : goal.returns
returns c =
    let below = subst (λ (xs : List Placed). AreBelow xs c.args.name.now c.below.result) c.deref-2.ensures.value c.below.ensures in
    let upto = subst (λ (xs : List Placed). AreUpTo xs c.args.name.now c.up_to.result) c.deref.ensures.value c.up_to.ensures in
    times_at c.self.inside.names.items c.self.inside.sorted.items c.self.invariant c.args.name.now c.below.result c.up_to.result below upto
    ∙ ap (λ (ns : List Name). times_in c.args.name.now ns) c.self.view_is
