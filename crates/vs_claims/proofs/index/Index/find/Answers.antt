use Rattle.std.proofs.Common.{◌<◌, List, length, sym, ◌∙◌, ap, subst, arith}
use Rattle.vs_rules.specs.Claims.{Name}
use Rattle.vs_claims.specs.Places.{place_in}
use Rattle.vs_claims.specs.passes.Placed.{Placed, AreInOrder, AreBelow}
use Rattle.vs_claims.proofs.IndexLemmas.{found_at, missing_at}
use Rattle.vs_claims.proofs.index.Index.find.Goals as goal

pub returns-then-first-len : goal.returns-then-first-len
returns-then-first-len c =
    let xs = c.deref.result.now in
    let as_many = ap (λ (xs : List Placed). length xs) c.deref.ensures.value in
    let order = subst (λ (xs : List Placed). AreInOrder c.self.inside.names.items xs) (sym c.deref.ensures.value) c.self.invariant in
    sym (missing_at c.self.inside.names.items xs order c.args.name.now c.below-first.result c.below-first.ensures (λ l. absurd (omega (arith, l, as_many))))
    ∙ ap (λ (ns : List Name). place_in ns c.args.name.now) c.self.view_is

pub returns-then-eq : goal.returns-then-eq
returns-then-eq c =
    let few : c.below-first.result < length c.self.inside.sorted.items = omega arith in
    let below = subst (λ (xs : List Placed). AreBelow xs c.args.name.now c.below-first.result) c.deref.ensures.value c.below-first.ensures in
    sym (found_at c.self.inside.names.items c.self.inside.sorted.items c.self.invariant c.args.name.now c.below-first.result c.index.result.now below few c.index.ensures (sym c.eq.ensures ∙ c.if-eq.true))
    ∙ ap (λ (ns : List Name). place_in ns c.args.name.now) c.self.view_is

pub returns-else-eq : goal.returns-else-eq
returns-else-eq c =
    let below = subst (λ (xs : List Placed). AreBelow xs c.args.name.now c.below-first.result) c.deref.ensures.value c.below-first.ensures in
    sym (missing_at c.self.inside.names.items c.self.inside.sorted.items c.self.invariant c.args.name.now c.below-first.result below (λ l. (c.index.result.now, c.index.ensures, sym c.eq.ensures ∙ c.if-eq.false)))
    ∙ ap (λ (ns : List Name). place_in ns c.args.name.now) c.self.view_is
