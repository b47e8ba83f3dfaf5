use Rattle.std.proofs.Common.{◌↔◌, Bool, IsTrue, refl, subst}
use Rattle.vs_cert_roots.specs.First.{IsAtStart}
use Rattle.vs_cert_roots.proofs.first.is_first.Goals as goal

pub returns-then-not-is_write : goal.returns-then-not-is_write
returns-then-not-is_write c = (λ t. cc, λ h. let f = c.if-not-is_write.ensures.1 h.0 in cc)

pub returns : goal.returns
returns c =
    let F = c.args.facts.now in
    let e = subst (λ (wide : Bool). (IsTrue c.is_slot0.result ↔ IsAtStart wide F.charts c.args.site)) c.is_wide.ensures c.is_slot0.ensures in
    (λ h. (c.if-not-is_write.ensures.0 refl, e.0 h), λ h. e.1 h.1)
