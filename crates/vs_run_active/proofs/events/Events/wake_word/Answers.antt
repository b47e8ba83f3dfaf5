use Rattle.std.proofs.Common.{List, subst, ◌∙◌, arith}
use Rattle.std.proofs.lemmas.Result.{on_ok_weaker}
use Rattle.vs_run_active.specs.declared.process.Process.{Process}
use Rattle.vs_run_active.specs.Groups.{meaning}
use Rattle.vs_run_active.specs.Wakes.{AreWalked}
use Rattle.vs_run_active.specs.Watchers.{between}
use Rattle.vs_run_active.proofs.WakesLemmas.{wakes_row}
use Rattle.vs_run_active.proofs.SeeingLemmas.{same_wake}
use Rattle.vs_run_active.proofs.events.Events.wake_word.Goals as goal

pub returns : goal.returns
returns c = on_ok_weaker c.wake_controls.result
    (λ walked. λ d terms before after is of.
    wakes_row d terms c.args.tables.now c.args.signal c.args.word c.args.change c.row-row.result c.differing-differing.result before after c.args.self.now.assigns
    c.wake_controls.new.self.assigns c.args.self.now.processes c.wake_controls.new.self.processes is of c.row-row.ensures.there c.requires.word (omega arith) (c.differing-differing.ensures before after of)
    (c.wake_controls.ensures.assigns ∙ c.in_ok-wake_readers.ensures.assigns
    ∙ same_wake c.args.word c.differing-differing.result (meaning c.args.tables.now.groups) c.readers_of_word-readers.result.now
    (between c.row-row.result.readers c.row-row.result.any c.args.tables.now.watchers.items) c.args.self.now.assigns c.readers_of_word-readers.ensures)
    (subst (λ (xs : List Process). AreWalked c.args.tables.now.watchers.items c.row-row.result c.args.word c.args.change xs c.wake_controls.new.self.processes)
    c.wake_readers.ensures.processes (walked c.row-row.result c.row-row.ensures.there)))
    c.wake_controls.ensures.processes
