use Rattle.std.proofs.Common.{◌∙◌, subst}
use Rattle.std.proofs.lemmas.Option.{same_Some}
use Rattle.std.proofs.lemmas.Result.{IfOk-weaker}
use Rattle.vs_claims.specs.vs_maps.specs.Reaches.{Chart}
use Rattle.vs_rules_of_signals.specs.declared.ranks.Ranks.{Ranks}
use Rattle.vs_rules_of_signals.specs.Ranks.{AreRanks}
use Rattle.vs_rules_of_signals.proofs.writes.ranks_of.Goals as goal

pub returns-then-not-is_delay : goal.returns-then-not-is_delay
returns-then-not-is_delay c t is = c.none.ensures t

pub returns-in-Some : goal.returns-in-Some
returns-in-Some c =
    IfOk-weaker _ (λ (x : Ranks). AreRanks c.in-Some.tables.now x) _
    (λ x h t is. subst (λ (y : Chart). AreRanks y x) (same_Some c.in-Some.tables.now t (c.in-Some.ensures ∙ is)) h) c.of.ensures
