use Rattle.std.proofs.Common.{◌++◌, List, map, ◌∙◌, ap}
use Rattle.std.specs.List.{flat_map}
use Rattle.vs_claims.specs.vs_rules.specs.Certificates.{edge_claim}
use Rattle.vs_claims.specs.vs_rules.specs.Claims.{Claims, Name, names_of_edge}
use Rattle.vs_claims.specs.Facts.{Case}
use Rattle.vs_claims.specs.Places.{texts}
use Rattle.vs_claims.proofs.FactLemmas.{process_names_are, signal_names_are}
use Rattle.vs_claims.proofs.NameLemmas.{all_are}
use Rattle.vs_claims.proofs.certificate_names.all_names.Goals as goal

pub returns : goal.returns
returns c =
    let x = c.args.facts.now in
    let none = texts c.new-names.result.items in
    let some = texts c.push_edges.new.names.items in
    let more = texts c.push_names.new.names.items in
    let most = texts c.push_names-2.new.names.items in
    all_are x.claims none some more most (texts c.push_names-3.new.names.items) (ap texts c.new-names.ensures.items)
    (c.in_ok-push_edges.ensures ∙ ap (λ es. none ++ flat_map names_of_edge (map edge_claim es)) c.deref.ensures.value
    ∙ ap (λ (y : Claims). none ++ flat_map names_of_edge y.edges) c.certificate-certificate.ensures)
    (c.in_ok-push_names.ensures
    ∙ ap (λ (ns : List Name). some ++ ns) (c.facts.invariant.names.claims.order_is ∙ ap (λ (y : Case). y.claims.order) c.facts.view_is))
    (c.in_ok-push_names-2.ensures ∙ ap (λ (ns : List Name). more ++ ns) (process_names_are c.facts.invariant x c.facts.view_is))
    (c.in_ok-push_names-3.ensures ∙ ap (λ (ns : List Name). most ++ ns) (signal_names_are c.facts.invariant x c.facts.view_is))
