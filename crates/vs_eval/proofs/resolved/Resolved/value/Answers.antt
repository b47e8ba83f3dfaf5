use Rattle.std.proofs.Common.{sym, ◌∙◌, ap, subst}
use Rattle.vs_design.specs.InOrder.{IsStoreOf}
use Rattle.vs_eval.specs.Values.{value_of}
use Rattle.vs_eval.specs.Meant.{Meaning}
use Rattle.vs_eval.specs.PlanesOf.{digits_of}
use Rattle.vs_eval.proofs.MeantLemmas.{own_value}
use Rattle.vs_eval.proofs.resolved.Resolved.value.Goals as goal

pub returns-in-Some : goal.returns-in-Some
returns-in-Some c =
    let r = c.self.inside in
    let m = rw c.in-Some.is at c.self.invariant in
    let is = subst (λ (x : Meaning). IsStoreOf x.signals c.args.store.now) (sym c.self.view_is) c.requires in
    c.vector.ensures
    ∙ ap (digits_of c.in-Some.size.width) c.quick_planes.ensures
    ∙ own_value r.design.now.signals (λ store time. value_of r.expression.now store time) c.in-Some.node c.in-Some.size.width m c.args.store.now c.args.time is
    ∙ ap (λ (x : Meaning). value_of x.expression c.args.store.now c.args.time) c.self.view_is

pub returns-in-None : goal.returns-in-None
returns-in-None c = c.value.ensures ∙ ap (λ (x : Meaning). value_of x.expression c.args.store.now c.args.time) c.self.view_is
