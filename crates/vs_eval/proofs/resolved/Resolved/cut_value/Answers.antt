use Rattle.std.proofs.Common.{sym, ◌∙◌, ap, subst}
use Rattle.std.specs.Prelude.{false}
use Rattle.vs_design.specs.vs_logic4.specs.Vectors.{resized}
use Rattle.vs_design.specs.InOrder.{IsStoreOf}
use Rattle.vs_eval.specs.Values.{value_of}
use Rattle.vs_eval.specs.Meant.{Meaning}
use Rattle.vs_eval.specs.PlanesOf.{digits_of}
use Rattle.vs_eval.proofs.MeantLemmas.{other_value}
use Rattle.vs_eval.proofs.resolved.Resolved.cut_value.Goals as goal

pub returns-in-Some : goal.returns-in-Some
returns-in-Some c =
    let r = c.self.inside in
    let m = rw c.in-Some.is at c.self.invariant in
    let is = subst (λ (x : Meaning). IsStoreOf x.signals c.args.store.now) (sym c.self.view_is) c.requires.store in
    c.vector.ensures
    ∙ ap (digits_of c.args.width) c.quick_planes.ensures
    ∙ other_value r.design.now.signals (λ store time. value_of r.expression.now store time) c.in-Some.node c.in-Some.field-0-1.width m c.args.store.now c.args.time is c.args.width
    ∙ ap (λ (x : Meaning). resized false c.args.width (value_of x.expression c.args.store.now c.args.time)) c.self.view_is

pub returns-in-None : goal.returns-in-None
returns-in-None c =
    c.resize-made.ensures
    ∙ ap (resized false c.args.width) c.value-digits.ensures
    ∙ ap (λ (x : Meaning). resized false c.args.width (value_of x.expression c.args.store.now c.args.time)) c.self.view_is
