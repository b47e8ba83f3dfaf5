use Rattle.std.proofs.Common.{◌↔◌, Bool, true, IsTrue, refl, sym, subst}
use Rattle.std.proofs.lemmas.Result.{IfOk-weaker}
use Rattle.vs_design.specs.Parts.{Parts}
use Rattle.vs_rules.specs.Claims.{HasKind}
use Rattle.vs_cert_roots.specs.Roots.{IsSoundlyWritten}
use Rattle.vs_cert_roots.proofs.HotLemmas.{sound_is}
use Rattle.vs_cert_roots.proofs.roots.is_sound_root.Goals as goal

pub returns-then-not-is_variable : goal.returns-then-not-is_variable
returns-then-not-is_variable c = (
  λ t. cc,
  λ h. c.if-not-is_variable.ensures.1 (subst (λ (d : Parts). HasKind true d c.args.root) (sym c.design.ensures) h.variable),
)

pub returns : goal.returns
returns c =
    let F = c.args.facts.now in
    let variable = subst (λ (d : Parts). HasKind true d c.args.root) c.design.ensures (c.if-not-is_variable.ensures.0 refl) in
    let l = sound_is F.design F.claims c.args.root variable (c.if-not-is_blocking.ensures.0 refl) in
    IfOk-weaker _ (λ (b : Bool). (IsTrue b ↔ IsSoundlyWritten F.design F.claims c.args.root)) _ (λ b e. (λ t. l.0 (e.0 t), λ h. e.1 (l.1 h))) c.is_soundly_written.ensures
