-- A race keeps the rules of no certificate.
use Rattle.vs_laws.proofs.Race.{formed, race}
use Rattle.vs_laws.specs.Race.{racing}
use Rattle.vs_independence.proofs.Ruled.{rules_make_independent}
use Rattle.vs_laws.specs.RaceRules.{ARaceKeepsNoRules}

pub race_keeps_no_rules : ARaceKeepsNoRules
race_keeps_no_rules g c kept = race g c.grain (rules_make_independent (racing g) c (formed g) kept)
