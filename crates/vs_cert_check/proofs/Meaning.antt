-- What a yes means is what the rules are for.
use Rattle.vs_design.specs.Parts.{Parts}
use Rattle.vs_design.specs.WellFormed.{WellFormed}
use Rattle.vs_independence.specs.RuleLaws.{RulesMakeDisplaysAlike, RulesMakeIndependent}
use Rattle.vs_rules_of_starts.specs.vs_rules.specs.Claims.{Claims}
use Rattle.vs_rules_of_starts.specs.vs_rules.specs.Verdict.{IsVerdict}
use Rattle.vs_cert_check.specs.Answers.{verdict_view}
use Rattle.vs_cert_check.specs.Means.{Means}
use Rattle.vs_cert_check.specs.declared.verdict.Verdict.{Verdict}
use Rattle.vs_cert_check.specs.declared.verdict.Verdict.TheVariants.{Yes, No}

pub meant : (d : Parts) (c : Claims) → WellFormed d → RulesMakeIndependent → RulesMakeDisplaysAlike → (v : Verdict) → IsVerdict d c (verdict_view v) →
    Means d c v
meant d c formed traces lines Yes is = record { traces = traces d c formed is; lines = lines d c formed is }
meant d c formed traces lines (No number place) is = tt
