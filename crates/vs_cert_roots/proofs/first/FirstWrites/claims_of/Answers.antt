use Rattle.std.proofs.Common.{ℕ, ◌↔◌, ◌∙◌, subst}
use Rattle.std.specs.List.{Contains}
use Rattle.vs_rules_of_signals.specs.vs_claims.specs.Facts.{Case, NamesRoot}
use Rattle.vs_cert_roots.proofs.first.FirstWrites.claims_of.Goals as goal

pub returns : goal.returns
returns c =
    subst (λ (k : Case). (place : ℕ) → (Contains c.entries_with_root.result.now place ↔ NamesRoot k.design k.claims.edges place c.args.root))
    (c.facts.ensures ∙ c.self.view_is) c.entries_with_root.ensures
