use Rattle.std.proofs.Common.{◌≡◌, [], ◌∷◌, ◌++◌, length, ap, sym, subst, ◌∙◌, arith}
use Rattle.std.proofs.lemmas.Result.{err_from_is_err_and}
use Rattle.vs_scopes.specs.scopes_passes.Names.{read_path}
use Rattle.vs_elab_signals.specs.Opened.{AreOpened}
use Rattle.vs_elab_hierarchy.specs.scope_passes.Adding.{AddsScope}
use Rattle.vs_elab_hierarchy.proofs.SeatLemmas.{opened_many, around_front, entered_around}
use Rattle.vs_elab_hierarchy.proofs.AddLemmas.{turns_before, adds_scope}
use Rattle.vs_elab_hierarchy.proofs.adding.list_scope.Goals as goal

pub path_inside-requires-clause-place : goal.path_inside-requires-clause-place
path_inside-requires-clause-place c = λ place h.
    (let ss = c.requires.0 in
    let s = c.requires.1 in
    let n = c.requires.3 in
    let below = entered_around (ss ++ s ∷ []) c.args.scope s place n.last.entered h in
    let many = opened_many c.args.list.now.items ss c.requires.2.opened in
    let same = ap length c.deref.ensures.value in
    omega (arith, below, many, n.last.number, same))

pub list_members-requires-clause-around : goal.list_members-requires-clause-around
list_members-requires-clause-around c = λ place h.
    (let ss = c.requires.0 in
    let s = c.requires.1 in
    let n = c.requires.3 in
    let below = entered_around (ss ++ s ∷ []) c.args.scope s place n.last.entered h in
    let many = opened_many c.args.list.now.items ss c.requires.2.opened in
    let same = ap length c.deref-2.ensures.value in
    omega (arith, below, many, n.last.number, same))

pub returns-in_err-names : goal.returns-in_err-names
returns-in_err-names c = λ ss s p n.
    (let q = err_from_is_err_and c.from_residual-in_err-names.result c.from_residual-in_err-names.ensures.1 in
    let one : AreOpened c.deref.result.now ss = subst (λ z. AreOpened z ss) (sym c.deref.ensures.value) p.opened in
    let two : AreOpened c.deref-2.result.now ss = subst (λ z. AreOpened z ss) (sym c.deref-2.ensures.value) p.opened in
    let path : read_path c.deref-3.result.now ≡ s.path = ap read_path c.deref-3.ensures.value ∙ c.in_ok-path.ensures.path ss s one (around_front ss s c.args.scope.around n.last.number n.last.entered.around) n.last.entered.title in
    rw (q.1, q.2) (c.in_err-names.ensures ss s two n.last path n.base))

pub count_turns-requires-clause-few : goal.count_turns-requires-clause-few
count_turns-requires-clause-few c =
    let ss = c.requires.0 in
    let s = c.requires.1 in
    let p = c.requires.2 in
    let n = c.requires.3 in
    let one : AreOpened c.deref.result.now ss = subst (λ z. AreOpened z ss) (sym c.deref.ensures.value) p.opened in
    let two : AreOpened c.deref-2.result.now ss = subst (λ z. AreOpened z ss) (sym c.deref-2.ensures.value) p.opened in
    let path : read_path c.deref-3.result.now ≡ s.path = ap read_path c.deref-3.ensures.value ∙ c.in_ok-path.ensures.path ss s one (around_front ss s c.args.scope.around n.last.number n.last.entered.around) n.last.entered.title in
    let same = (c.in_ok-names.ensures ss s two n.last path n.base).binds.same in
    omega (arith, same.turns, p.few_turns)

pub count_turns-requires-clause-around : goal.count_turns-requires-clause-around
count_turns-requires-clause-around c = λ place h.
    (let ss = c.requires.0 in
    let s = c.requires.1 in
    let n = c.requires.3 in
    let below = entered_around (ss ++ s ∷ []) c.args.scope s place n.last.entered h in
    let many = opened_many c.args.list.now.items ss c.requires.2.opened in
    let same = ap length c.deref-4.ensures.value in
    omega (arith, below, many, n.last.number, same))

pub returns-in_err-turns : goal.returns-in_err-turns
returns-in_err-turns c = λ ss s p n.
    (let q = err_from_is_err_and c.from_residual-in_err-turns.result c.from_residual-in_err-turns.ensures.1 in
    let one : AreOpened c.deref.result.now ss = subst (λ z. AreOpened z ss) (sym c.deref.ensures.value) p.opened in
    let two : AreOpened c.deref-2.result.now ss = subst (λ z. AreOpened z ss) (sym c.deref-2.ensures.value) p.opened in
    let three : AreOpened c.deref-4.result.now ss = subst (λ z. AreOpened z ss) (sym c.deref-4.ensures.value) p.opened in
    let at = c.in_ok-path.ensures.path ss s one (around_front ss s c.args.scope.around n.last.number n.last.entered.around) n.last.entered.title in
    let path : read_path c.deref-3.result.now ≡ s.path = ap read_path c.deref-3.ensures.value ∙ at in
    let again : read_path c.deref-5.result.now ≡ s.path = ap read_path c.deref-5.ensures.value ∙ at in
    let own = c.in_ok-names.ensures ss s two n.last path n.base in
    rw (q.1, q.2) (c.in_err-turns.ensures ss s three n.last again (turns_before c.args.list.now.items c.args.plan.now c.list_members.new.plan ss c.args.scope s c.in_ok-names.names p n own) own.binds.bound.means))

pub count-requires : goal.count-requires
count-requires c =
    let ss = c.requires.0 in
    let s = c.requires.1 in
    let p = c.requires.2 in
    let n = c.requires.3 in
    let one : AreOpened c.deref.result.now ss = subst (λ z. AreOpened z ss) (sym c.deref.ensures.value) p.opened in
    let two : AreOpened c.deref-2.result.now ss = subst (λ z. AreOpened z ss) (sym c.deref-2.ensures.value) p.opened in
    let path : read_path c.deref-3.result.now ≡ s.path = ap read_path c.deref-3.ensures.value ∙ c.in_ok-path.ensures.path ss s one (around_front ss s c.args.scope.around n.last.number n.last.entered.around) n.last.entered.title in
    let same = (c.in_ok-names.ensures ss s two n.last path n.base).binds.same in
    omega (arith, same.instances, p.few_instances)

pub returns : goal.returns
returns c = λ ss s p n.
    (let one : AreOpened c.deref.result.now ss = subst (λ z. AreOpened z ss) (sym c.deref.ensures.value) p.opened in
    let two : AreOpened c.deref-2.result.now ss = subst (λ z. AreOpened z ss) (sym c.deref-2.ensures.value) p.opened in
    let three : AreOpened c.deref-4.result.now ss = subst (λ z. AreOpened z ss) (sym c.deref-4.ensures.value) p.opened in
    let at = c.in_ok-path.ensures.path ss s one (around_front ss s c.args.scope.around n.last.number n.last.entered.around) n.last.entered.title in
    let path : read_path c.deref-3.result.now ≡ s.path = ap read_path c.deref-3.ensures.value ∙ at in
    let again : read_path c.deref-5.result.now ≡ s.path = ap read_path c.deref-5.ensures.value ∙ at in
    let own = c.in_ok-names.ensures ss s two n.last path n.base in
    let turns = c.in_ok-turns.ensures ss s three n.last again (turns_before c.args.list.now.items c.args.plan.now c.list_members.new.plan ss c.args.scope s c.in_ok-names.names p n own) own.binds.bound.means in
    let list = c.args.list.now.items in
    let grown = c.in_ok-push.ensures.items ∙ ap (λ z. list ++ z ∷ []) c.with_names.ensures in
    subst (λ z. AddsScope ss s c.args.scope list z c.args.plan.now c.count.new.plan) (sym grown)
    (adds_scope list c.args.plan.now c.list_members.new.plan c.count.new.plan ss c.args.scope s c.in_ok-names.names c.in_ok-turns.turns p n own turns c.count.ensures))
