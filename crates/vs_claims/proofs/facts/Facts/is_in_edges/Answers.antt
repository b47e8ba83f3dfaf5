use Rattle.std.proofs.Common.{◌+◌, ◌∙◌, ap, sym}
use Rattle.vs_claims.specs.vs_rules.specs.Claims.{times_in, edge_names}
use Rattle.vs_claims.proofs.FactLemmas.{edge_times_are}
use Rattle.vs_claims.proofs.RootLemmas.{some_times, other_times}
use Rattle.vs_claims.proofs.facts.Facts.is_in_edges.Goals as goal

pub returns-then-times-gt0 : goal.returns-then-times-gt0
returns-then-times-gt0 c =
    let name = c.args.name.now in
    let s = times_in name c.self.inside.names.edges.signals in
    some_times (times_in name (edge_names c.args.self.now.claims)) c.times.result s
    (edge_times_are c.self.invariant c.args.self.now c.self.view_is name ∙ ap (λ r. r + s) (sym c.times.ensures)) c.if-times-gt0.true

pub returns : goal.returns
returns c =
    let name = c.args.name.now in
    other_times (times_in name (edge_names c.args.self.now.claims)) c.times.result c.times-2.result
    (edge_times_are c.self.invariant c.args.self.now c.self.view_is name ∙ ap (λ r. r + times_in name c.self.inside.names.edges.signals) (sym c.times.ensures)
    ∙ ap (λ s. c.times.result + s) (sym c.times-2.ensures)) c.if-times-gt0.false
