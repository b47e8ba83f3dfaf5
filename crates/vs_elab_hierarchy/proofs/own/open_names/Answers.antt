use Rattle.std.proofs.Common.{◌≡◌, map, ap, subst, ◌∙◌}
use Rattle.std.proofs.lemmas.Result.{err_from_is_err_and}
use Rattle.vs_elab_signals.specs.vs_scopes.specs.Reads.{read_piece}
use Rattle.vs_scopes.specs.scopes_passes.Answers.{IsReported}
use Rattle.vs_scopes.specs.scopes_passes.Names.{read_path}
use Rattle.vs_scopes.specs.scopes_passes.Parts.{read_port}
use Rattle.vs_elab_hierarchy.specs.scope_passes.Own.{IsAgainNot}
use Rattle.vs_elab_hierarchy.proofs.OwnLemmas.{binds_told, again_told}
use Rattle.vs_elab_hierarchy.proofs.own.open_names.Goals as goal

pub returns-in_err-check_alike : goal.returns-in_err-check_alike
returns-in_err-check_alike c = λ ss s e at pieces base.
    (let p = err_from_is_err_and c.from_residual.result c.from_residual.ensures.1 in
    rw (p.1, p.2) (c.in_err-check_alike.ensures s at (ap (map read_port) c.deref.ensures.value ∙ e.ports) (ap (map read_piece) c.deref-2.ensures.value ∙ e.pieces)))

pub returns-in_err-names : goal.returns-in_err-names
returns-in_err-names c = λ ss s e at pieces base.
    (let p = err_from_is_err_and c.from_residual-in_err-names.result c.from_residual-in_err-names.ensures.1 in
    rw (p.1, p.2) (binds_told s c.in_err-names.field-0.0 (c.in_err-names.ensures ss s e at base)))

pub returns-in_err-check_again : goal.returns-in_err-check_again
returns-in_err-check_again c = λ ss s e at pieces base.
    (let p = err_from_is_err_and c.from_residual-in_err-check_again.result c.from_residual-in_err-check_again.ensures.1 in
    let here = read_path c.args.path.now in
    let f = c.in_err-check_again.field-0.0 in
    let ports : map read_port c.deref-3.result.now ≡ s.ports = ap (map read_port) c.deref-3.ensures.value ∙ e.ports in
    let parts : map read_piece c.deref-4.result.now ≡ s.pieces = ap (map read_piece) c.deref-4.ensures.value ∙ e.pieces in
    let told : IsReported (IsAgainNot here s.ports s.pieces) f =
    subst (λ z. IsReported (IsAgainNot here s.ports z) f) parts (subst (λ z. IsReported (IsAgainNot here z (map read_piece c.deref-4.result.now)) f) ports c.in_err-check_again.ensures) in
    rw (p.1, p.2) (again_told s here f at.path_is pieces.stray told))
