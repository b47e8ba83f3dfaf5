use Rattle.std.proofs.Common.{◌∷◌, ◌++◌, [], length, refl, sym, subst, ap, ◌∙◌, arith, length-append}
use Rattle.std.proofs.lemmas.Result.{err_from_is_err_and}
use Rattle.vs_elab_signals.specs.Opened.{AreOpened}
use Rattle.vs_elab_hierarchy.specs.declared.opening.Opening.{Opening}
use Rattle.vs_elab_hierarchy.specs.hierarchy_passes.InHand.{InHand}
use Rattle.vs_elab_hierarchy.proofs.FaultLemmas.{inner_not_told}
use Rattle.vs_elab_hierarchy.proofs.InHandLemmas.{asked, first_in_hand, last_in_hand}
use Rattle.vs_elab_hierarchy.proofs.opening.open_inside.Goals as goal

pub returns-in_err-inner : goal.returns-in_err-inner
returns-in_err-inner c = λ ms ss s h.
    (let p = err_from_is_err_and c.from_residual.result c.from_residual.ensures.1 in
    let one : AreOpened c.deref.result.now ss = subst (λ z. AreOpened z ss) (sym c.deref.ensures.value) h.planned.opened in
    rw (p.1, p.2) (inner_not_told c.args.depth_left ms s c.in_err-inner.field-0.0 (c.in_err-inner.ensures ss s one h.stands)))

pub loop-scope-init : goal.loop-scope-init
loop-scope-init c = λ ms ss s h.
    (let one : AreOpened c.deref.result.now ss = subst (λ z. AreOpened z ss) (sym c.deref.ensures.value) h.planned.opened in
    let found = c.in_ok-inner.ensures ss s one h.stands in
    let outer : Opening = record { place = c.args.place; inner = c.in_ok-inner.inner; opened = 0 } in
    first_in_hand (asked ms ss s c.args.place c.args.depth_left c.args.list.now.items c.args.plan.now) c.args.modules.now outer c.push.new.self.items c.requires.depth_left h refl refl found
    (c.in_ok-push.ensures.items ∙ ap (λ z. z ++ outer ∷ []) c.new-stack.ensures.items))

pub open_next-requires : goal.open_next-requires
open_next-requires c =
    let ms = c.requires.ready.0 in
    let ss = c.requires.ready.1 in
    let s = c.requires.ready.2 in
    let h = c.requires.ready.3 in
    let a = asked ms ss s c.args.place c.args.depth_left c.args.list.now.items c.args.plan.now in
    (a, subst (λ z. InHand a c.args.modules.now z c.loop-scope.list.items c.loop-scope.plan) c.in-Some.ensures.items (c.loop-scope.invariant ms ss s h))

pub loop-scope-smaller : goal.loop-scope-smaller
loop-scope-smaller c =
    omega (arith, c.in_ok-open_next.ensures.less, ap length c.in-Some.ensures.items, length-append c.pop.new.self.items (c.in-Some.scope ∷ []))

pub loop-scope-preserved : goal.loop-scope-preserved
loop-scope-preserved c = λ ms ss s h.
    (let a = asked ms ss s c.args.place c.args.depth_left c.args.list.now.items c.args.plan.now in
    c.in_ok-open_next.ensures.in_hand a
    (subst (λ z. InHand a c.args.modules.now z c.loop-scope.list.items c.loop-scope.plan) c.in-Some.ensures.items (c.loop-scope.invariant ms ss s h)))

pub returns-in_err-open_next : goal.returns-in_err-open_next
returns-in_err-open_next c = λ ms ss s h.
    (let p = err_from_is_err_and c.from_residual-in_err-open_next.result c.from_residual-in_err-open_next.ensures.1 in
    let a = asked ms ss s c.args.place c.args.depth_left c.args.list.now.items c.args.plan.now in
    rw (p.1, p.2) (c.in_err-open_next.ensures.in_hand a
    (subst (λ z. InHand a c.args.modules.now z c.loop-scope.list.items c.loop-scope.plan) c.in-Some.ensures.items (c.loop-scope.invariant ms ss s h))))

pub returns : goal.returns
returns c = λ ms ss s h.
    last_in_hand (asked ms ss s c.args.place c.args.depth_left c.args.list.now.items c.args.plan.now) c.args.modules.now c.loop-scope.stack.items _ _
    (omega (arith, c.in_default.ensures.cases.0)) (c.loop-scope.invariant ms ss s h)
