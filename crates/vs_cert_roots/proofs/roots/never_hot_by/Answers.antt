use Rattle.std.proofs.Common.{◌↔◌, Bool, IsTrue, IfOk, refl, ◌∙◌, ap, subst}
use Rattle.vs_rules.specs.Claims.{is_wide}
use Rattle.vs_rules_of_signals.specs.vs_claims.specs.Facts.{Case}
use Rattle.vs_rules_of_signals.specs.Places.{NeverHotIn}
use Rattle.vs_cert_roots.proofs.roots.never_hot_by.Goals as goal

pub returns-then-are_apart : goal.returns-then-are_apart
returns-then-are_apart c = (λ t. c.if-are_apart.ensures refl (is_wide c.args.writes.now.claims), λ h. refl)

pub returns : goal.returns
returns c =
    subst (λ (wide : Bool). IfOk c.never_hot_in.result (λ b. (IsTrue b ↔ NeverHotIn wide c.args.tables.now c.args.v)))
    (c.is_wide.ensures ∙ ap (λ (k : Case). is_wide k.claims) c.facts.ensures) c.never_hot_in.ensures
