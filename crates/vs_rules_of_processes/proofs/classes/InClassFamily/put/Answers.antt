use Rattle.std.proofs.Common.{◌≡◌, ℕ, refl}
use Rattle.std.proofs.lemmas.Bool.{false≢true}
use Rattle.vs_maps.proofs.SignalLemmas.{none_put as nothing_put}
use Rattle.vs_rules_of_processes.specs.Classes.{IsWrittenIn}
use Rattle.vs_rules_of_processes.proofs.ListLemmas.{one_put}
use Rattle.vs_rules_of_processes.proofs.classes.InClassFamily.put.Goals as goal

pub returns-in_ok-push : goal.returns-in_ok-push
returns-in_ok-push c =
    let f = c.args.self.now in
    let y = c.if-has_class.ensures.0 refl in
    one_put c.args.out.now.items c.push.new.self.items c.args.i (IsWrittenIn f.slots.now.design f.slots.now.claims f.class c.args.i) c.in_ok-push.ensures.items
    (record { residue = y.0; slot = (c.write_slots.ensures y.0).0 y.1; class = y.2 })

pub returns-else-has_class : goal.returns-else-has_class
returns-else-has_class c =
    let f = c.args.self.now in
    nothing_put c.args.out.now.items (λ (v : ℕ). IsWrittenIn f.slots.now.design f.slots.now.claims f.class c.args.i × (c.args.i ≡ v))
    (λ v h. false≢true (c.if-has_class.ensures.1 (h.0.residue, (c.write_slots.ensures h.0.residue).1 h.0.slot, h.0.class)))
