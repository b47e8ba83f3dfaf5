use Rattle.std.proofs.Common.{◌≡◌, ◌<◌, length, sym, subst, arith}
use Rattle.std.proofs.lemmas.Result.{err_from_is_err_and}
use Rattle.vs_elab_signals.specs.vs_elab_constants.specs.Reads.{read_inner}
use Rattle.vs_elab_signals.specs.Opened.{AreOpened, AreSeated}
use Rattle.vs_elab_hierarchy.specs.passes.Entering.{before_next, IsShallow, Enters}
use Rattle.vs_elab_hierarchy.proofs.SeatLemmas.{opened_many, opened_place}
use Rattle.vs_elab_hierarchy.proofs.AddLemmas.{enters_next, adds_inner, shallow, enters_told, added_told}
use Rattle.vs_elab_hierarchy.proofs.adding.add.Goals as goal

pub enter-requires-clause-place : goal.enter-requires-clause-place
enter-requires-clause-place c =
    let h = c.requires.3 in
    subst (λ z. c.args.place < length z) (sym c.deref.ensures.value) (opened_place c.args.list.now.items c.requires.1 c.args.place c.requires.2 h.planned.opened h.stands)

pub enter-requires-clause-seated : goal.enter-requires-clause-seated
enter-requires-clause-seated c = subst AreSeated (sym c.deref.ensures.value) c.requires.3.planned.seated

pub enter-requires-clause-depth : goal.enter-requires-clause-depth
enter-requires-clause-depth c =
    let h = c.requires.3 in
    subst (λ z. IsShallow z c.args.place) (sym c.deref.ensures.value) (shallow c.args.list.now.items c.args.plan.now c.requires.1 c.args.place c.requires.2 h.planned h.stands)

pub returns-in_err-scope : goal.returns-in_err-scope
returns-in_err-scope c = λ ms ss s h.
    (let p = err_from_is_err_and c.from_residual.result c.from_residual.ensures.1 in
    let one : AreOpened c.deref.result.now ss = subst (λ z. AreOpened z ss) (sym c.deref.ensures.value) h.planned.opened in
    rw (p.1, p.2) (enters_told ms s (before_next c.args.list.now.items c.args.plan.now) (read_inner c.args.one.now) c.in_err-scope.field-0.0 (c.in_err-scope.ensures ms ss s h.lists one h.stands)))

pub list_scope-requires : goal.list_scope-requires
list_scope-requires c =
    let ms = c.requires.0 in
    let ss = c.requires.1 in
    let s = c.requires.2 in
    let h = c.requires.3 in
    let list = c.args.list.now.items in
    let plan = c.args.plan.now in
    let x = read_inner c.args.one.now in
    let one : AreOpened c.deref.result.now ss = subst (λ z. AreOpened z ss) (sym c.deref.ensures.value) h.planned.opened in
    let k : Enters ms ss s c.args.place (before_next list plan) x c.in_ok-scope.scope = subst (λ z. Enters ms ss s c.args.place (before_next z plan) x c.in_ok-scope.scope) c.deref.ensures.value (c.in_ok-scope.ensures ms ss s h.lists one h.stands) in
    (ss, k.inner, h.planned, enters_next ms list plan ss s c.args.place x c.in_ok-scope.scope h.planned k)

pub returns-in_err-list_scope : goal.returns-in_err-list_scope
returns-in_err-list_scope c = λ ms ss s h.
    (let p = err_from_is_err_and c.from_residual-in_err-list_scope.result c.from_residual-in_err-list_scope.ensures.1 in
    let list = c.args.list.now.items in
    let plan = c.args.plan.now in
    let x = read_inner c.args.one.now in
    let one : AreOpened c.deref.result.now ss = subst (λ z. AreOpened z ss) (sym c.deref.ensures.value) h.planned.opened in
    let k : Enters ms ss s c.args.place (before_next list plan) x c.in_ok-scope.scope = subst (λ z. Enters ms ss s c.args.place (before_next z plan) x c.in_ok-scope.scope) c.deref.ensures.value (c.in_ok-scope.ensures ms ss s h.lists one h.stands) in
    rw (p.1, p.2) (added_told ms s (before_next list plan) x k.inner c.in_err-list_scope.field-0.0 k.opens
    (c.in_err-list_scope.ensures ss k.inner h.planned (enters_next ms list plan ss s c.args.place x c.in_ok-scope.scope h.planned k))))

pub returns : goal.returns
returns c = λ ms ss s h.
    (let list = c.args.list.now.items in
    let plan = c.args.plan.now in
    let x = read_inner c.args.one.now in
    let one : AreOpened c.deref.result.now ss = subst (λ z. AreOpened z ss) (sym c.deref.ensures.value) h.planned.opened in
    let k : Enters ms ss s c.args.place (before_next list plan) x c.in_ok-scope.scope = subst (λ z. Enters ms ss s c.args.place (before_next z plan) x c.in_ok-scope.scope) c.deref.ensures.value (c.in_ok-scope.ensures ms ss s h.lists one h.stands) in
    let many = opened_many list ss h.planned.opened in
    let next : c.len-next.result ≡ length ss = omega (arith, many, c.len-next.ensures, c.args.list.now.ok.0) in (
      next,
      adds_inner ms list c.list_scope.new.list.items plan c.list_scope.new.plan ss s c.args.place x c.in_ok-scope.scope k
          (c.in_ok-list_scope.ensures ss k.inner h.planned (enters_next ms list plan ss s c.args.place x c.in_ok-scope.scope h.planned k)),
    ))
