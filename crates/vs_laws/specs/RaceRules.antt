-- A race keeps the rules of no certificate.
use Rattle.std.specs.declared.alloc.Global.{Global}
use Rattle.vs_laws.specs.Race.{racing}
use Rattle.vs_rules.specs.Claims.{Claims}
use Rattle.vs_rules.specs.Verdict.{Disciplined}

-- two processes that write one signal at once: no certificate whatsoever is one of their design
abbrev pub ARaceKeepsNoRules : Type 0
ARaceKeepsNoRules = (g : Global) (c : Claims) → Disciplined (racing g) c → ⊥
