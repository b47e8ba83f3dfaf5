use Rattle.std.proofs.Common.{◌≡◌, ◌-◌, length, take, ap, sym, subst, ◌∙◌, arith}
use Rattle.std.proofs.lemmas.List.{take-map}
use Rattle.vs_elab_statements.specs.vs_scopes.specs.scopes_passes.Answers.{IsFaultAt}
use Rattle.vs_elab_statements.specs.vs_scopes.specs.scopes_passes.Names.{read_title, read_path}
use Rattle.vs_elaborate.proofs.frames.outer_fault.Goals as goal

pub returns-in-Refused : goal.returns-in-Refused
returns-in-Refused c =
    let names = c.args.frame.now.path.items in
    let number : c.saturating_sub.result ≡ length names - 1 = omega (arith, c.len.ensures, c.saturating_sub.ensures, c.args.frame.now.path.ok.0) in
    let before : read_path (take c.saturating_sub.result c.deref.result.now) ≡ take (length names - 1) (read_path names) =
    ap (λ z. read_path (take c.saturating_sub.result z)) c.deref.ensures.value ∙ sym (take-map read_title c.saturating_sub.result names) ∙ ap (λ k. take k (read_path names)) number in
    rw c.in-Refused.is (subst (λ z. IsFaultAt c.in-Refused.reason z c.fault_at.result) before c.fault_at.ensures)
