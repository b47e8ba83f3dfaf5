use Rattle.std.proofs.Common.{◌↔◌, IsTrue, ◌∙◌, subst}
use Rattle.vs_rules.specs.Claims.{IsRoot}
use Rattle.vs_rules_of_signals.specs.vs_claims.specs.Facts.{Case}
use Rattle.vs_cert_roots.proofs.first.FirstWrites.is_root.Goals as goal

pub returns : goal.returns
returns c = subst (λ (k : Case). IsTrue c.is_root.result ↔ IsRoot k.design k.claims c.args.v) (c.facts.ensures ∙ c.self.view_is) c.is_root.ensures
