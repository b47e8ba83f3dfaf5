use Rattle.std.proofs.Common.{List, OnOk, ap, subst, ◌∙◌, arith}
use Rattle.vs_run_active.specs.vs_eval.specs.declared.masks.WordChange.{WordChange}
use Rattle.std.proofs.lemmas.Result.{on_ok_weaker}
use Rattle.vs_run_active.specs.declared.process.Process.{Process}
use Rattle.vs_run_active.specs.declared.watchers.Watcher.{Watcher}
use Rattle.vs_run_active.specs.Groups.{meaning, spelled}
use Rattle.vs_run_active.specs.Wakes.{AreWalked, Wakes, has_one, woken_watched}
use Rattle.vs_run_active.proofs.WakesLemmas.{rises_walked, unwatched, wakes_row}
use Rattle.vs_run_active.proofs.events.Events.wake.Goals as goal

pub returns-then-row : goal.returns-then-row
returns-then-row c = λ d terms before after is of.
    unwatched d terms c.args.tables.now c.args.signal c.args.word c.args.change c.row-row.result c.differing-differing.result before after c.args.self.now.assigns c.args.self.now.processes is of
    c.row-row.ensures.there c.requires.word (omega arith) c.differing-differing.ensures c.row-row.ensures.fits c.if-row.true

pub returns-then-row-2 : goal.returns-then-row-2
returns-then-row-2 c =
    subst (λ (change : WordChange). OnOk c.wake_word.result
    (Wakes c.args.tables.now c.args.signal c.args.word change c.args.self.now.assigns c.args.self.now.processes c.wake_word.new.self.assigns c.wake_word.new.self.processes)) c.alike.ensures
    c.wake_word.ensures

pub returns-then-row-4 : goal.returns-then-row-4
returns-then-row-4 c = on_ok_weaker c.wake_rising.result
    (λ rises. λ d terms before after is of.
    wakes_row d terms c.args.tables.now c.args.signal c.args.word c.args.change c.row-row.result c.differing-differing.result before after c.args.self.now.assigns
    c.wake_rising.new.self.assigns c.args.self.now.processes c.wake_rising.new.self.processes is of c.row-row.ensures.there c.requires.word (omega arith) (c.differing-differing.ensures before after of)
    (c.wake_rising.ensures.assigns ∙ c.in_ok-wake_readers.ensures.assigns
    ∙ ap (λ (ws : List Watcher). woken_watched (has_one c.args.word c.differing-differing.result) (spelled (meaning c.args.tables.now.groups) ws) c.args.self.now.assigns) c.readers.ensures)
    (subst (λ (xs : List Process). AreWalked c.args.tables.now.watchers.items c.row-row.result c.args.word c.args.change xs c.wake_rising.new.self.processes)
    c.wake_readers.ensures.processes
    (rises_walked c.args.tables.now.watchers.items c.row-row.result c.args.word c.differing-differing.result c.args.change c.wake_readers.new.self.processes c.wake_rising.new.self.processes
    c.if-row-3.true c.if-row-4.true (omega arith) c.differing-differing.ensures rises)))
    c.wake_rising.ensures.processes

pub returns : goal.returns
returns c = on_ok_weaker c.wake_controls.result
    (λ walked. λ d terms before after is of.
    wakes_row d terms c.args.tables.now c.args.signal c.args.word c.args.change c.row-row.result c.differing-differing.result before after c.args.self.now.assigns
    c.wake_controls.new.self.assigns c.args.self.now.processes c.wake_controls.new.self.processes is of c.row-row.ensures.there c.requires.word (omega arith) (c.differing-differing.ensures before after of)
    (c.wake_controls.ensures.assigns ∙ c.in_ok-wake_readers.ensures.assigns
    ∙ ap (λ (ws : List Watcher). woken_watched (has_one c.args.word c.differing-differing.result) (spelled (meaning c.args.tables.now.groups) ws) c.args.self.now.assigns) c.readers.ensures)
    (subst (λ (xs : List Process). AreWalked c.args.tables.now.watchers.items c.row-row.result c.args.word c.args.change xs c.wake_controls.new.self.processes)
    c.wake_readers.ensures.processes (subst (λ (change : WordChange). AreWalked c.args.tables.now.watchers.items c.row-row.result c.args.word change c.wake_readers.new.self.processes c.wake_controls.new.self.processes)
    c.alike-2.ensures (walked c.row-row.result c.row-row.ensures.there))))
    c.wake_controls.ensures.processes
