use Rattle.std.proofs.Common.{◌≡◌, ◌+◌, ◌∷◌, ◌++◌, [], length, refl, sym, subst, ap, ◌∙◌, arith}
use Rattle.std.proofs.lemmas.Result.{err_from_is_err_and}
use Rattle.vs_elab_hierarchy.specs.declared.opening.Opening.{Opening}
use Rattle.vs_elab_hierarchy.specs.hierarchy_passes.InHand.{InHand}
use Rattle.vs_elab_hierarchy.proofs.InHandLemmas.{next_is, none_is, top, closes, around, adds_here, adds_not, within_ready, within_place, finds_not, goes_on, one_more}
use Rattle.vs_elab_hierarchy.proofs.opening.open_next.Goals as goal

pub add-requires : goal.add-requires
add-requires c =
    let a = c.requires.0 in
    let h = c.requires.1 in
    let next = (next_is c.args.scope.inner.items c.deref.result.now c.args.scope.opened c.in-Some.one.now c.deref.ensures.value c.in-Some.ensures.lookup.0 c.in-Some.ensures.lookup.1) in
    ((top a c.args.modules.now c.args.stack.now.items c.args.scope c.args.list.now.items c.args.plan.now h).a.ms, around a c.args.modules.now c.args.stack.now.items c.args.scope c.args.list.now.items c.args.plan.now h c.in-Some.one.now next, (top a c.args.modules.now c.args.stack.now.items c.args.scope c.args.list.now.items c.args.plan.now h).a.s, adds_here a c.args.modules.now c.args.stack.now.items c.args.scope c.args.list.now.items c.args.plan.now h c.in-Some.one.now next)

pub returns-in_err-next-in-Some-clause-in_hand : goal.returns-in_err-next-in-Some-clause-in_hand
returns-in_err-next-in-Some-clause-in_hand c = λ a h.
    (let p = err_from_is_err_and c.from_residual-in_err-next-in-Some.result c.from_residual-in_err-next-in-Some.ensures.1 in
    let next = (next_is c.args.scope.inner.items c.deref.result.now c.args.scope.opened c.in-Some.one.now c.deref.ensures.value c.in-Some.ensures.lookup.0 c.in-Some.ensures.lookup.1) in
    rw (p.1, p.2) (adds_not a c.args.modules.now c.args.stack.now.items c.args.scope c.args.list.now.items c.args.plan.now h c.in-Some.one.now next c.in_err-next-in-Some.field-0.0
    (c.in_err-next-in-Some.ensures (top a c.args.modules.now c.args.stack.now.items c.args.scope c.args.list.now.items c.args.plan.now h).a.ms (around a c.args.modules.now c.args.stack.now.items c.args.scope c.args.list.now.items c.args.plan.now h c.in-Some.one.now next) (top a c.args.modules.now c.args.stack.now.items c.args.scope c.args.list.now.items c.args.plan.now h).a.s (adds_here a c.args.modules.now c.args.stack.now.items c.args.scope c.args.list.now.items c.args.plan.now h c.in-Some.one.now next))))

pub inner_at-requires-clause-place : goal.inner_at-requires-clause-place
inner_at-requires-clause-place c =
    let a = c.requires.0 in
    let h = c.requires.1 in
    let next = (next_is c.args.scope.inner.items c.deref.result.now c.args.scope.opened c.in-Some.one.now c.deref.ensures.value c.in-Some.ensures.lookup.0 c.in-Some.ensures.lookup.1) in
    (within_place a c.args.modules.now c.args.stack.now.items c.args.scope c.args.list.now.items c.args.plan.now h c.in-Some.one.now next c.add.new.list.items c.add.new.plan c.in_ok-next-in-Some.next (c.in_ok-next-in-Some.ensures (top a c.args.modules.now c.args.stack.now.items c.args.scope c.args.list.now.items c.args.plan.now h).a.ms (around a c.args.modules.now c.args.stack.now.items c.args.scope c.args.list.now.items c.args.plan.now h c.in-Some.one.now next) (top a c.args.modules.now c.args.stack.now.items c.args.scope c.args.list.now.items c.args.plan.now h).a.s (adds_here a c.args.modules.now c.args.stack.now.items c.args.scope c.args.list.now.items c.args.plan.now h c.in-Some.one.now next)) c.deref-in-Some.result.now c.deref-in-Some.ensures.value).0

pub inner_at-requires-clause-seated : goal.inner_at-requires-clause-seated
inner_at-requires-clause-seated c =
    let a = c.requires.0 in
    let h = c.requires.1 in
    let next = (next_is c.args.scope.inner.items c.deref.result.now c.args.scope.opened c.in-Some.one.now c.deref.ensures.value c.in-Some.ensures.lookup.0 c.in-Some.ensures.lookup.1) in
    (within_place a c.args.modules.now c.args.stack.now.items c.args.scope c.args.list.now.items c.args.plan.now h c.in-Some.one.now next c.add.new.list.items c.add.new.plan c.in_ok-next-in-Some.next (c.in_ok-next-in-Some.ensures (top a c.args.modules.now c.args.stack.now.items c.args.scope c.args.list.now.items c.args.plan.now h).a.ms (around a c.args.modules.now c.args.stack.now.items c.args.scope c.args.list.now.items c.args.plan.now h c.in-Some.one.now next) (top a c.args.modules.now c.args.stack.now.items c.args.scope c.args.list.now.items c.args.plan.now h).a.s (adds_here a c.args.modules.now c.args.stack.now.items c.args.scope c.args.list.now.items c.args.plan.now h c.in-Some.one.now next)) c.deref-in-Some.result.now c.deref-in-Some.ensures.value).1

pub returns-in_err-inner-in-Some-clause-in_hand : goal.returns-in_err-inner-in-Some-clause-in_hand
returns-in_err-inner-in-Some-clause-in_hand c = λ a h.
    (let p = err_from_is_err_and c.from_residual-in_err-inner-in-Some.result c.from_residual-in_err-inner-in-Some.ensures.1 in
    let next = (next_is c.args.scope.inner.items c.deref.result.now c.args.scope.opened c.in-Some.one.now c.deref.ensures.value c.in-Some.ensures.lookup.0 c.in-Some.ensures.lookup.1) in
    let added = (c.in_ok-next-in-Some.ensures (top a c.args.modules.now c.args.stack.now.items c.args.scope c.args.list.now.items c.args.plan.now h).a.ms (around a c.args.modules.now c.args.stack.now.items c.args.scope c.args.list.now.items c.args.plan.now h c.in-Some.one.now next) (top a c.args.modules.now c.args.stack.now.items c.args.scope c.args.list.now.items c.args.plan.now h).a.s (adds_here a c.args.modules.now c.args.stack.now.items c.args.scope c.args.list.now.items c.args.plan.now h c.in-Some.one.now next)) in
    let at = within_place a c.args.modules.now c.args.stack.now.items c.args.scope c.args.list.now.items c.args.plan.now h c.in-Some.one.now next c.add.new.list.items c.add.new.plan c.in_ok-next-in-Some.next added c.deref-in-Some.result.now c.deref-in-Some.ensures.value in
    rw (p.1, p.2) (finds_not a c.args.modules.now c.args.stack.now.items c.args.scope c.args.list.now.items c.args.plan.now h c.in-Some.one.now next c.add.new.list.items c.add.new.plan c.in_ok-next-in-Some.next added c.in_err-inner-in-Some.field-0.0
    (c.in_err-inner-in-Some.ensures _ _ at.2 (within_ready a c.args.modules.now c.args.stack.now.items c.args.scope c.args.list.now.items c.args.plan.now h c.in-Some.one.now next c.add.new.list.items c.add.new.plan c.in_ok-next-in-Some.next added).stands)))

pub returns-in_ok-push-in-None-clause-in_hand : goal.returns-in_ok-push-in-None-clause-in_hand
returns-in_ok-push-in-None-clause-in_hand c = λ a h.
    closes a c.args.modules.now c.args.stack.now.items c.args.scope c.args.list.now.items c.args.plan.now h _ (none_is c.args.scope.inner.items c.deref.result.now c.args.scope.opened c.deref.ensures.value c.in-None.ensures.lookup.0) refl refl refl c.in_ok-push-in-None.ensures.items

pub returns-in_ok-push-in-Some-2-clause-in_hand : goal.returns-in_ok-push-in-Some-2-clause-in_hand
returns-in_ok-push-in-Some-2-clause-in_hand c = λ a h.
    (let next = (next_is c.args.scope.inner.items c.deref.result.now c.args.scope.opened c.in-Some.one.now c.deref.ensures.value c.in-Some.ensures.lookup.0 c.in-Some.ensures.lookup.1) in
    let added = (c.in_ok-next-in-Some.ensures (top a c.args.modules.now c.args.stack.now.items c.args.scope c.args.list.now.items c.args.plan.now h).a.ms (around a c.args.modules.now c.args.stack.now.items c.args.scope c.args.list.now.items c.args.plan.now h c.in-Some.one.now next) (top a c.args.modules.now c.args.stack.now.items c.args.scope c.args.list.now.items c.args.plan.now h).a.s (adds_here a c.args.modules.now c.args.stack.now.items c.args.scope c.args.list.now.items c.args.plan.now h c.in-Some.one.now next)) in
    let at = within_place a c.args.modules.now c.args.stack.now.items c.args.scope c.args.list.now.items c.args.plan.now h c.in-Some.one.now next c.add.new.list.items c.add.new.plan c.in_ok-next-in-Some.next added c.deref-in-Some.result.now c.deref-in-Some.ensures.value in
    let found = c.in_ok-inner-in-Some.ensures _ _ at.2 (within_ready a c.args.modules.now c.args.stack.now.items c.args.scope c.args.list.now.items c.args.plan.now h c.in-Some.one.now next c.add.new.list.items c.add.new.plan c.in_ok-next-in-Some.next added).stands in
    let turned : Opening = record { place = c.args.scope.place; inner = c.args.scope.inner; opened = c.args.scope.opened + 1 } in
    let inside : Opening = record { place = c.in_ok-next-in-Some.next; inner = c.in_ok-inner-in-Some.inner; opened = 0 } in
    let stacked : c.push-in-Some-2.new.self.items ≡ (c.args.stack.now.items ++ turned ∷ []) ++ inside ∷ [] = c.in_ok-push-in-Some-2.ensures.items ∙ ap (λ z. z ++ inside ∷ []) c.in_ok-push-in-Some.ensures.items in
    subst (λ z. InHand a c.args.modules.now z c.add.new.list.items c.add.new.plan) (sym stacked)
    (goes_on a c.args.modules.now c.args.stack.now.items c.args.scope c.args.list.now.items c.args.plan.now h c.in-Some.one.now next c.add.new.list.items c.add.new.plan c.in_ok-next-in-Some.next added inside refl refl found))

pub returns-in_ok-push-in-Some-2-clause-less : goal.returns-in_ok-push-in-Some-2-clause-less
returns-in_ok-push-in-Some-2-clause-less c =
    let a = c.requires.0 in
    let h = c.requires.1 in
    let next = (next_is c.args.scope.inner.items c.deref.result.now c.args.scope.opened c.in-Some.one.now c.deref.ensures.value c.in-Some.ensures.lookup.0 c.in-Some.ensures.lookup.1) in
    let longer = one_more a c.args.modules.now c.args.stack.now.items c.args.scope c.args.list.now.items c.args.plan.now h c.in-Some.one.now next c.add.new.list.items c.add.new.plan c.in_ok-next-in-Some.next (c.in_ok-next-in-Some.ensures (top a c.args.modules.now c.args.stack.now.items c.args.scope c.args.list.now.items c.args.plan.now h).a.ms (around a c.args.modules.now c.args.stack.now.items c.args.scope c.args.list.now.items c.args.plan.now h c.in-Some.one.now next) (top a c.args.modules.now c.args.stack.now.items c.args.scope c.args.list.now.items c.args.plan.now h).a.s (adds_here a c.args.modules.now c.args.stack.now.items c.args.scope c.args.list.now.items c.args.plan.now h c.in-Some.one.now next)) in
    let stacked = c.in_ok-push-in-Some-2.ensures.len in
    let before = c.in_ok-push-in-Some.ensures.len in
    let fits = c.deref-in-Some.type_inv.0 in
    omega (arith, longer, stacked, before, fits, ap length c.deref-in-Some.ensures.value)
