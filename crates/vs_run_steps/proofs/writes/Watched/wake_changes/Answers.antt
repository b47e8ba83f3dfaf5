use Rattle.std.proofs.Common.{◌≡◌, ◌+◌, List, ◌∷◌, drop, length, ap, subst, arith, refl}
use Rattle.std.proofs.lemmas.List.{drop_all}
use Rattle.vs_process.specs.declared.changes.Change.{Change}
use Rattle.vs_run_active.specs.declared.tables.Tables.{Tables}
use Rattle.vs_run_active.specs.Wakes.{Wakes}
use Rattle.vs_run_active.proofs.ChangesLemmas.{next_change}
use Rattle.vs_run_steps.proofs.WritesLemmas.{left_at_first, left_at_next, next_named, none_left}
use Rattle.vs_run_steps.proofs.writes.Watched.wake_changes.Goals as goal

pub loop-change-init : goal.loop-change-init
loop-change-init c = record {
  named = c.requires.named;
  store = refl;
  tables = refl;
  marks = refl;
  left = left_at_first c.args.self.now.tables c.args.changes.now.items c.args.self.now.events.assigns c.args.self.now.events.processes;
}

pub change_of-requires : goal.change_of-requires
change_of-requires c =
    let changes : List Change = c.args.changes.now.items in
    let i = c.loop-change.change-index in
    let next : drop i changes ≡ c.change-item.result ∷ drop (i + 1) changes =
    next_change changes c.deref-change-items.result.now i c.change-item.result c.deref-change-items.ensures.value c.loop-change-test.true c.change-item.is
    in
    (next_named (length c.loop-change.self.tables.rows.items) (drop i changes) (drop (i + 1) changes) c.change-item.result next c.loop-change.invariant.named).0.2

pub wake_word-requires-clause-signal : goal.wake_word-requires-clause-signal
wake_word-requires-clause-signal c =
    let changes : List Change = c.args.changes.now.items in
    let i = c.loop-change.change-index in
    let next : drop i changes ≡ c.change-item.result ∷ drop (i + 1) changes =
    next_change changes c.deref-change-items.result.now i c.change-item.result c.deref-change-items.ensures.value c.loop-change-test.true c.change-item.is
    in
    (next_named (length c.loop-change.self.tables.rows.items) (drop i changes) (drop (i + 1) changes) c.change-item.result next c.loop-change.invariant.named).0.0

pub wake_word-requires-clause-word : goal.wake_word-requires-clause-word
wake_word-requires-clause-word c =
    let changes : List Change = c.args.changes.now.items in
    let i = c.loop-change.change-index in
    let next : drop i changes ≡ c.change-item.result ∷ drop (i + 1) changes =
    next_change changes c.deref-change-items.result.now i c.change-item.result c.deref-change-items.ensures.value c.loop-change-test.true c.change-item.is
    in
    (next_named (length c.loop-change.self.tables.rows.items) (drop i changes) (drop (i + 1) changes) c.change-item.result next c.loop-change.invariant.named).0.1

pub loop-change-preserved : goal.loop-change-preserved
loop-change-preserved c =
    let changes : List Change = c.args.changes.now.items in
    let i = c.loop-change.change-index in
    let change : Change = c.change-item.result in
    let next : drop i changes ≡ change ∷ drop (i + 1) changes =
    next_change changes c.deref-change-items.result.now i change c.deref-change-items.ensures.value c.loop-change-test.true c.change-item.is
    in
    record {
      named = (next_named (length c.loop-change.self.tables.rows.items) (drop i changes) (drop (i + 1) changes) change next c.loop-change.invariant.named).1;
      store = c.loop-change.invariant.store;
      tables = c.loop-change.invariant.tables;
      marks = c.loop-change.invariant.marks;
      left =
          left_at_next c.args.self.now.tables changes (drop i changes) (drop (i + 1) changes) change c.change_of.result c.args.self.now.events.assigns c.loop-change.self.events.assigns
          c.wake_word.new.self.assigns c.args.self.now.events.processes c.loop-change.self.events.processes c.wake_word.new.self.processes next c.loop-change.invariant.left
          (subst (λ (t : Tables). Wakes t change.signal change.word c.change_of.result c.loop-change.self.events.assigns c.loop-change.self.events.processes c.wake_word.new.self.assigns
          c.wake_word.new.self.processes) c.loop-change.invariant.tables c.in_ok-wake_word.ensures)
          c.change_of.ensures;
    }

pub returns-clause-followed : goal.returns-clause-followed
returns-clause-followed c =
    let changes : List Change = c.args.changes.now.items in
    let i = c.loop-change.change-index in
    none_left c.args.self.now.tables changes (drop i changes) c.args.self.now.events.assigns c.loop-change.self.events.assigns c.args.self.now.events.processes c.loop-change.self.events.processes
    (drop_all i changes (omega (arith, c.loop-change-test.false, ap length c.deref-change-items.ensures.value))) c.loop-change.invariant.left
