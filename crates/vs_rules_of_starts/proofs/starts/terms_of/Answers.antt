use Rattle.std.proofs.Common.{◌↔◌, sym, ap, ◌∙◌}
use Rattle.std.proofs.lemmas.Result.{IfOk-weaker}
use Rattle.std.specs.List.{Contains}
use Rattle.vs_design.specs.declared.statement.EventTerm.{EventTerm}
use Rattle.vs_drivers.specs.vs_maps.specs.Ranges.{HasTermAt}
use Rattle.vs_claims.specs.Facts.{seen}
use Rattle.vs_rules_of_starts.specs.Started.{AreTerms}
use Rattle.vs_rules_of_starts.proofs.StartLemmas.{no_chart, terms_are}
use Rattle.vs_rules_of_starts.proofs.starts.terms_of.Goals as goal

pub returns-in-None : goal.returns-in-None
returns-in-None c =
    absurd (no_chart c.args.facts.now.design c.args.facts.now.charts c.maps.ensures c.args.i c.requires (sym c.tables.ensures ∙ ap seen c.in-None.is))

pub returns-in-Some : goal.returns-in-Some
returns-in-Some c =
    IfOk-weaker c.terms.result (λ all. (term : EventTerm) → (Contains all.items term ↔ HasTermAt c.in-Some.tables.now term)) (λ all. AreTerms c.args.facts.now.design c.args.i all.items)
    (λ all told. terms_are c.args.facts.now.design c.args.facts.now.charts c.maps.ensures c.args.i c.requires c.in-Some.tables.now (sym c.tables.ensures ∙ ap seen c.in-Some.is) all.items told)
    c.terms.ensures
