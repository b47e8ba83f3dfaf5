use Rattle.std.proofs.Common.{◌↔◌, IsTrue, sym, subst}
use Rattle.std.specs.Result.{IfOk}
use Rattle.vs_claims.specs.vs_certificate.specs.declared.members.Start.{Start}
use Rattle.vs_rules.specs.Blocks.{Starts}
use Rattle.vs_rules.specs.Claims.{HasStart}
use Rattle.vs_rules.specs.Certificates.{start_from}
use Rattle.vs_rules_of_starts.proofs.starts.starts_as.Goals as goal

pub is_cold-requires-clause-start : goal.is_cold-requires-clause-start
is_cold-requires-clause-start c = subst (λ (s : Start). HasStart c.args.facts.now.design c.args.facts.now.claims c.args.i (start_from s)) c.in-Cold.is c.requires.start

pub returns-in-Cold : goal.returns-in-Cold
returns-in-Cold c =
    subst (λ (s : Start). IfOk c.is_cold.result (λ b. (IsTrue b ↔ Starts c.args.facts.now.design c.args.facts.now.claims c.args.i (start_from s)))) (sym c.in-Cold.is)
    c.is_cold.ensures

pub returns-in-Sources : goal.returns-in-Sources
returns-in-Sources c =
    subst (λ (s : Start). IfOk c.waits_for_sources.result (λ b. (IsTrue b ↔ Starts c.args.facts.now.design c.args.facts.now.claims c.args.i (start_from s)))) (sym c.in-Sources.is)
    c.waits_for_sources.ensures

pub returns-in-Starter : goal.returns-in-Starter
returns-in-Starter c =
    subst (λ (s : Start). IfOk c.starts_moved.result (λ b. (IsTrue b ↔ Starts c.args.facts.now.design c.args.facts.now.claims c.args.i (start_from s)))) (sym c.in-Starter.is)
    c.starts_moved.ensures
