-- Verdicts of sources.
use Rattle.std.specs.Prelude.{ℕ, List}
use Rattle.vs_syntax.specs.declared.tree.Source.{Source}
use Rattle.vs_design.specs.Parts.{Parts}
use Rattle.vs_elaborate.specs.DesignOf.{DesignOf}
use Rattle.vs_rules.specs.Claims.{Claims}
use Rattle.vs_rules.specs.Verdict.{Verdict, IsVerdict}

-- a verdict on one design that a source and a top define is one on each
abbrev pub SourceDecides : Type 0
SourceDecides = (s : Source) (top : List ℕ) (c : Claims) (d d' : Parts) (v : Verdict) →
    DesignOf s top d → DesignOf s top d' → IsVerdict d c v → IsVerdict d' c v
