use Rattle.std.proofs.Common.{◌≡◌, ◌∙◌, List, ◌++◌, length, rules, ap}
use Rattle.vs_design.specs.InOrder.{IsStoreOf}
use Rattle.vs_process.specs.declared.changes.Change.{Change}
use Rattle.vs_process.specs.Changes.{changed_words}
use Rattle.vs_run_active.proofs.ChangesLemmas.{marks_put}
use Rattle.vs_run_steps.proofs.WritesLemmas.{made_of, marks_since, named_by_write}
use Rattle.vs_run_steps.proofs.writes.Watched.write_words.Goals as goal

pub wake_changes-requires : goal.wake_changes-requires
wake_changes-requires g c =
    let is : IsStoreOf g.signals c.args.self.now.store = search rules in
    let rows : length g.signals ≡ length c.args.self.now.tables.rows.items = search rules in
    let words : c.make.new.changes.items ≡ changed_words c.args.self.now.store c.make.new.store c.args.write.now =
    c.in_ok-make.ensures.changes ∙ ap (λ (l : List Change). l ++ changed_words c.args.self.now.store c.make.new.store c.args.write.now) c.clear.ensures.items
    in
    record {
      named =
          named_by_write g.signals c.args.self.now.store c.make.new.store c.args.write.now c.make.new.changes.items (length c.args.self.now.tables.rows.items) is rows c.in_ok-make.ensures.store
          words;
    }

pub returns-clause-made : goal.returns-clause-made
returns-clause-made g c =
    let words : c.make.new.changes.items ≡ changed_words c.args.self.now.store c.make.new.store c.args.write.now =
    c.in_ok-make.ensures.changes ∙ ap (λ (l : List Change). l ++ changed_words c.args.self.now.store c.make.new.store c.args.write.now) c.clear.ensures.items
    in
    made_of c.args.self.now.tables c.args.write.now c.args.self.now.store c.make.new.store c.make.new.changes.items c.args.self.now.events.assigns c.wake_changes.new.self.events.assigns
    c.args.self.now.events.processes c.wake_changes.new.self.events.processes c.in_ok-make.ensures.store words c.in_ok-wake_changes.ensures.followed

pub returns-clause-marked : goal.returns-clause-marked
returns-clause-marked g c =
    let words : c.make.new.changes.items ≡ changed_words c.args.self.now.store c.make.new.store c.args.write.now =
    c.in_ok-make.ensures.changes ∙ ap (λ (l : List Change). l ++ changed_words c.args.self.now.store c.make.new.store c.args.write.now) c.clear.ensures.items
    in
    marks_since c.args.self.now.marks.items c.mark_signals.new.marks.items c.wake_changes.new.self.marks.items c.args.self.now.store c.make.new.store c.wake_changes.new.self.store
    (ap (λ v. v.items) c.wake_changes.ensures.marks) c.wake_changes.ensures.store
    (marks_put c.args.self.now.marks.items c.mark_signals.new.marks.items c.args.write.now c.args.self.now.store c.make.new.store c.make.new.changes.items c.mark_signals.ensures.marked words
    c.in_ok-make.ensures.store)

pub returns-in_err-wake_changes-clause-marked : goal.returns-in_err-wake_changes-clause-marked
returns-in_err-wake_changes-clause-marked g c =
    let words : c.make.new.changes.items ≡ changed_words c.args.self.now.store c.make.new.store c.args.write.now =
    c.in_ok-make.ensures.changes ∙ ap (λ (l : List Change). l ++ changed_words c.args.self.now.store c.make.new.store c.args.write.now) c.clear.ensures.items
    in
    marks_since c.args.self.now.marks.items c.mark_signals.new.marks.items c.wake_changes.new.self.marks.items c.args.self.now.store c.make.new.store c.wake_changes.new.self.store
    (ap (λ v. v.items) c.wake_changes.ensures.marks) c.wake_changes.ensures.store
    (marks_put c.args.self.now.marks.items c.mark_signals.new.marks.items c.args.write.now c.args.self.now.store c.make.new.store c.make.new.changes.items c.mark_signals.ensures.marked words
    c.in_ok-make.ensures.store)
