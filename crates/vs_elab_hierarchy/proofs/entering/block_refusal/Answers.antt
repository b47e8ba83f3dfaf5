use Rattle.std.proofs.Common.{◌≡◌, refl, ap, sym, subst, ◌∙◌}
use Rattle.vs_elab_signals.specs.vs_scopes.specs.declared.faults.Reason.TheVariants.{Width}
use Rattle.vs_elab_signals.specs.vs_scopes.specs.Scopes.{named_at}
use Rattle.vs_elab_signals.specs.vs_scopes.specs.scopes_passes.Answers.{IsFaultAt}
use Rattle.vs_elab_signals.specs.vs_scopes.specs.scopes_passes.Names.{read_title, read_path}
use Rattle.vs_elab_hierarchy.specs.passes.Entering.{IsBlockRefusal}
use Rattle.vs_elab_hierarchy.proofs.EnteringLemmas.{inside, stands_inside}
use Rattle.vs_elab_hierarchy.proofs.entering.block_refusal.Goals as goal

pub returns-in-Ok : goal.returns-in-Ok
returns-in-Ok c = λ ss s a h.
    (let n = read_title c.args.title in
    let p : read_path c.in-Ok.path.items ≡ named_at s n = c.in-Ok.ensures.path ss (inside s c.args.place n) a (stands_inside ss s c.args.place n h) refl in
    let q : read_path c.deref.result.now ≡ named_at s n = ap read_path c.deref.ensures.value ∙ p in
    let told : IsFaultAt (Width c.in-Refused.reason) (named_at s n) c.fault_at.result = subst (λ z. IsFaultAt (Width c.in-Refused.reason) z c.fault_at.result) q c.fault_at.ensures in
    subst (λ z. IsBlockRefusal s n z c.fault_at.result) (sym c.in-Refused.is) told)
