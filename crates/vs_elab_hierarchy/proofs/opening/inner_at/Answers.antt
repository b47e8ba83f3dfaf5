use Rattle.std.proofs.Common.{◌≡◌, false, inl, inr, map, ap, subst, ◌∙◌}
use Rattle.std.specs.List.{list_any}
use Rattle.std.proofs.lemmas.Result.{err_from_is_err_and}
use Rattle.vs_elab_signals.specs.vs_elab_constants.specs.Reads.{read_inner}
use Rattle.vs_scopes.specs.Scopes.{inner_of, is_named_as_net}
use Rattle.vs_scopes.specs.scopes_passes.Answers.{IsReported}
use Rattle.vs_scopes.proofs.AnswerLemmas.{told_by}
use Rattle.vs_elab_signals.specs.ScopeFaults.{HasConstructFault}
use Rattle.vs_elab_hierarchy.specs.vs_elab_signals.specs.nets_passes.Nets.{IsNamedAsNet}
use Rattle.vs_elab_hierarchy.specs.hierarchy_passes.Opens.{HasInnerNot}
use Rattle.vs_elab_hierarchy.proofs.opening.inner_at.Goals as goal

pub returns-in_err-inner : goal.returns-in_err-inner
returns-in_err-inner c = λ ss s a e.
    (let p = err_from_is_err_and c.from_residual.result c.from_residual.ensures.1 in
    rw (p.1, p.2) (told_by (HasConstructFault s) (HasInnerNot s) c.in_err-inner.field-0.0 (λ r q h. inl h) (c.in_err-inner.ensures ss s a e)))

pub returns-in_err-check_blocks : goal.returns-in_err-check_blocks
returns-in_err-check_blocks c = λ ss s a e.
    (let p = err_from_is_err_and c.from_residual-in_err-check_blocks.result c.from_residual-in_err-check_blocks.ensures.1 in
    let f = c.in_err-check_blocks.field-0.0 in
    let inner : map read_inner c.deref.result.now ≡ inner_of s = ap (map read_inner) c.deref.ensures.value ∙ (c.in_ok-inner.ensures ss s a e).same in
    let told : IsReported (IsNamedAsNet s (inner_of s)) f = subst (λ z. IsReported (IsNamedAsNet s z) f) inner (c.in_err-check_blocks.ensures ss s a e) in
    rw (p.1, p.2) (told_by (IsNamedAsNet s (inner_of s)) (HasInnerNot s) f (λ r q h. inr h) told))

pub returns : goal.returns
returns c = λ ss s a e. record {
  found = c.in_ok-inner.ensures ss s a e;
  nets = subst (λ z. list_any (is_named_as_net s) (map read_inner z) ≡ false) c.deref.ensures.value (c.in_ok-check_blocks.ensures ss s a e);
}
