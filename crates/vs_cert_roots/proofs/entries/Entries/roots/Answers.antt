use Rattle.std.proofs.Common.{◌↔◌, ℕ, IfOk, subst}
use Rattle.std.specs.List.{Contains}
use Rattle.std.specs.declared.vec.Vec.{Vec}
use Rattle.std.specs.declared.alloc.Global.{Global}
use Rattle.vs_rules.specs.Claims.{IsRootOf}
use Rattle.vs_rules_of_signals.specs.vs_claims.specs.Facts.{Case}
use Rattle.vs_cert_roots.proofs.entries.Entries.roots.Goals as goal

pub returns : goal.returns
returns c =
    subst (λ (k : Case). IfOk c.roots.result (λ (roots : Vec ℕ Global). (r : ℕ) → (Contains roots.items r ↔ IsRootOf k.design k.claims r c.args.v)))
    c.facts.ensures c.roots.ensures
