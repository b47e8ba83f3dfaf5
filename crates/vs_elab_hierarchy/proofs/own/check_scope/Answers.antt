use Rattle.std.proofs.Common.{[], ◌∷◌, ◌++◌, ◌≤◌, length, inl, refl, ap, sym, subst, ◌∙◌}
use Rattle.std.specs.List.{list_any}
use Rattle.vs_scopes.specs.Ports.{is_wrong_port}
use Rattle.vs_scopes.specs.declared.faults.Reason.TheVariants.{PortMismatch, Limit}
use Rattle.vs_scopes.specs.scopes_passes.Answers.{IsFaultAt}
use Rattle.vs_scopes.specs.scopes_passes.Parts.{read_port}
use Rattle.vs_scopes.proofs.AnswerLemmas.{told_at}
use Rattle.vs_elab_hierarchy.specs.scope_passes.Own.{HoldsOwn}
use Rattle.vs_elab_hierarchy.proofs.OwnLemmas.{deep_told, limit_passed, limit_same}
use Rattle.vs_design.specs.vs_logic4.proofs.Basics.{any_map}
use Rattle.vs_elab_hierarchy.proofs.own.check_scope.Goals as goal

pub returns-then-scope-gt-LEVELS : goal.returns-then-scope-gt-LEVELS
returns-then-scope-gt-LEVELS c = λ ss s a e q. deep_told (ss ++ s ∷ []) c.args.scope.now s c.home_fault.result e.entered c.if-scope-gt-LEVELS.true (c.home_fault.ensures ss s a e q)

pub returns-then-passes_limit : goal.returns-then-passes_limit
returns-then-passes_limit c = λ ss s a e q.
    told_at (HoldsOwn s) Limit s.path c.fault_at.result
    (inl (limit_passed s (sym (limit_same (ss ++ s ∷ []) c.args.scope.now s c.args.path.now (length c.args.path.now) e.entered q refl) ∙ sym c.passes_limit.ensures ∙ c.if-passes_limit.true)))
    (subst (λ z. IsFaultAt Limit z c.fault_at.result) q c.fault_at.ensures)

pub returns-then-has_wrong_port : goal.returns-then-has_wrong_port
returns-then-has_wrong_port c = λ ss s a e q.
    (let wrong = rw c.deref.ensures.value at c.has_wrong_port.ensures in
    told_at (HoldsOwn s) PortMismatch s.path c.fault_at-then-has_wrong_port.result
    (inl (ap (list_any is_wrong_port) (sym e.entered.ports) ∙ any_map is_wrong_port read_port c.args.scope.now.ports.items ∙ sym wrong ∙ c.if-has_wrong_port.true, refl))
    (subst (λ z. IsFaultAt PortMismatch z c.fault_at-then-has_wrong_port.result) q c.fault_at-then-has_wrong_port.ensures))

pub returns : goal.returns
returns c = λ ss s a e q.
    (let wrong = rw c.deref.ensures.value at c.has_wrong_port.ensures in
    record {
      shallow = subst (λ n. n ≤ 64) e.entered.depth c.if-scope-gt-LEVELS.false;
      few = sym (limit_same (ss ++ s ∷ []) c.args.scope.now s c.args.path.now (length c.args.path.now) e.entered q refl) ∙ sym c.passes_limit.ensures ∙ c.if-passes_limit.false;
      ports = ap (list_any is_wrong_port) (sym e.entered.ports) ∙ any_map is_wrong_port read_port c.args.scope.now.ports.items ∙ sym wrong ∙ c.if-has_wrong_port.false;
    })
