use Rattle.std.proofs.Common.{ℕ, List, map, ◌∙◌, ap}
use Rattle.vs_rules.specs.Certificates.{residues_from}
use Rattle.vs_rules.specs.Controls.{controls_in, list_of}
use Rattle.vs_slots.specs.Controls.{list_by}
use Rattle.vs_rules_of_processes.proofs.ArrivalLemmas.{arrivals_are}
use Rattle.vs_rules_of_processes.proofs.arrivals.are_arrivals_apart.Goals as goal

pub returns : goal.returns
returns c =
    let f = c.args.slots.now in
    arrivals_are f.design f.claims c.args.tables.now (list_by c.new-lists.result) (list_of (controls_in c.args.body.now) (map residues_from c.args.lists.now)) c.in_ok-before.before
    c.places.result c.in_ok-all.all
    (c.new-lists.ensures ∙ ap (λ (l : List ℕ). list_of l (map residues_from c.args.lists.now)) (c.deref.ensures.value ∙ c.in_ok-controls.ensures))
    c.places.ensures c.leads_in.ensures.points c.in_ok-before.ensures.exact c.in_ok-all.ensures
