use Rattle.std.proofs.Common.{◌<◌, ◌≤◌, length, sym, subst, ◌∙◌, arith}
use Rattle.vs_scopes.specs.scopes_passes.Answers.{IsFaultAt}
use Rattle.vs_elab_hierarchy.proofs.SeatLemmas.{opened_many}
use Rattle.vs_elab_hierarchy.proofs.OwnLemmas.{home_before, home_itself}
use Rattle.vs_elab_hierarchy.proofs.own.home_fault.Goals as goal

pub returns-then-scope-list : goal.returns-then-scope-list
returns-then-scope-list c = λ ss s a e q.
    (let many = opened_many c.args.list.now ss a in
    let small : c.args.scope.now.home < length ss = omega (arith, many) in
    let h = home_before ss c.args.scope.now s e small in
    subst (λ z. IsFaultAt c.args.reason z c.scope_fault.result) (sym h.2) (c.scope_fault.ensures ss h.0 a h.1))

pub returns-else-scope-list : goal.returns-else-scope-list
returns-else-scope-list c = λ ss s a e q.
    (let many = opened_many c.args.list.now ss a in
    let large : length ss ≤ c.args.scope.now.home = omega (arith, many) in
    subst (λ z. IsFaultAt c.args.reason z c.fault_at.result) (q ∙ sym (home_itself ss c.args.scope.now s e large)) c.fault_at.ensures)
