use Rattle.std.proofs.Common.{option_map, ap, Option}
use Rattle.vs_claims.specs.vs_certificate.specs.declared.members.Start.{Start}
use Rattle.vs_rules.specs.Certificates.{start_from}
use Rattle.vs_rules.specs.Claims.{cold}
use Rattle.vs_claims.specs.Facts.{kind_seen}
use Rattle.vs_rules_of_starts.proofs.StartLemmas.{start_is, start_not}
use Rattle.vs_rules_of_starts.proofs.apart.has_cold.Goals as goal

pub returns-in-None : goal.returns-in-None
returns-in-None c =
    start_not c.args.facts.now.design c.args.facts.now.claims c.args.i (kind_seen c.kind.result) (option_map start_from c.start_of.result) cold c.kind.ensures c.start_of.ensures
    (ap (λ (o : Option Start). option_map start_from o) c.in-None.is)

pub returns-in-Some : goal.returns-in-Some
returns-in-Some c =
    start_is c.args.facts.now.design c.args.facts.now.claims c.args.i (kind_seen c.kind.result) (option_map start_from c.start_of.result) (start_from c.in-Some.start) cold c.kind.ensures c.start_of.ensures
    (ap (λ (o : Option Start). option_map start_from o) c.in-Some.is) c.is_cold.result c.is_cold.ensures
