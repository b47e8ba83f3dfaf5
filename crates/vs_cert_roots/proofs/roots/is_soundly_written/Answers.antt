use Rattle.std.proofs.Common.{◌↔◌, Bool, IsTrue, refl}
use Rattle.std.proofs.lemmas.Result.{IfOk-weaker}
use Rattle.vs_rules.specs.Claims.{is_wide}
use Rattle.vs_cert_roots.specs.Roots.{NeverHot}
use Rattle.vs_cert_roots.proofs.HotLemmas.{written_is}
use Rattle.vs_cert_roots.proofs.roots.is_soundly_written.Goals as goal

pub returns-then-is_delay : goal.returns-then-is_delay
returns-then-is_delay c =
    let F = c.args.facts.now in
    let l = written_is F.design F.claims c.args.root c.in-Some.i (λ k. c.in-Some.ensures k) (c.if-is_delay.ensures.0 refl) in
    IfOk-weaker _ (λ (b : Bool). (IsTrue b ↔ NeverHot F.design (is_wide F.claims) c.in-Some.i c.args.root)) _ (λ b e. (λ t. l.0 (e.0 t), λ h. e.1 (l.1 h))) c.never_hot.ensures

pub never_hot-requires-clause-delay : goal.never_hot-requires-clause-delay
never_hot-requires-clause-delay c = c.if-is_delay.ensures.0 refl

pub never_hot-requires-clause-writer : goal.never_hot-requires-clause-writer
never_hot-requires-clause-writer c = (c.in-Some.ensures c.in-Some.i).1 refl
