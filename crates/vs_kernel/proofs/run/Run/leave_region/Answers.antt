use Rattle.std.proofs.Common.{◌≡◌, None, true, sym, ap, subst}
use Rattle.vs_run_active.specs.vs_process.specs.declared.moves.Move.TheVariants.{Rouse, Activate}
use Rattle.vs_run_active.specs.vs_process.specs.Executions.{is_enabled}
use Rattle.vs_run_active.specs.vs_process.proofs.Results.{on_err}
use Rattle.vs_run_active.specs.vs_process.specs.States.{State}
use Rattle.vs_kernel.specs.declared.state.Region.{Region}
use Rattle.vs_kernel.specs.Running.{region_move}
use Rattle.vs_run_steps.specs.Runs.{running_of, state_of}
use Rattle.vs_kernel.specs.Snapshot.{IsSnapshot, Snapshot, point_of}
use Rattle.vs_run_steps.specs.Points.{point}
use Rattle.vs_run_steps.specs.Turns.{Turned, TurnedPart}
use Rattle.vs_run_steps.proofs.TurnsLemmas.{turned_part}
use Rattle.vs_kernel.proofs.RegionLemmas.{activate_turned, rouse_turned}
use Rattle.vs_kernel.proofs.RunLemmas.{marks_still, own_run, run_of_own}
use Rattle.vs_kernel.proofs.SnapshotLemmas.{standing_on}
use Rattle.vs_kernel.proofs.run.Run.leave_region.Goals as goal

pub next_region-requires-clause-run : goal.next_region-requires-clause-run
next_region-requires-clause-run g c = own_run c.self.inside.forms c.self.inside.running (subst IsSnapshot (sym c.self.view_is) c.requires.run).run

pub leave-requires-clause-run : goal.leave-requires-clause-run
leave-requires-clause-run g c = own_run c.self.inside.forms c.self.inside.running (subst IsSnapshot (sym c.self.view_is) c.requires.run).run

pub returns-in_ok-leave-in-Inactive-clause-run : goal.returns-in_ok-leave-in-Inactive-clause-run
returns-in_ok-leave-in-Inactive-clause-run g c =
    let here = subst IsSnapshot (sym c.self.view_is) c.requires.run in
    standing_on _ _ c.self.view_is c.requires.run c.requires.none (running_of c.leave.new.run)
    (run_of_own c.self.inside.forms c.self.inside.running c.leave.new.run here.run c.in_ok-leave-in-Inactive.ensures.run)
    (marks_still c.self.inside.running c.leave.new.run c.in_ok-leave-in-Inactive.ensures.marks (ap (λ (s : State). s.store) c.in_ok-leave-in-Inactive.ensures.made))

pub returns-in_ok-leave-in-Inactive-clause-ok : goal.returns-in_ok-leave-in-Inactive-clause-ok
returns-in_ok-leave-in-Inactive-clause-ok g c =
    let enabled : is_enabled (state_of c.self.inside.running) Rouse ≡ true = subst (λ (x : Region). is_enabled (state_of c.self.inside.running) (region_move x) ≡ true) c.in-Inactive.is c.next_region.ensures in
    subst
    (λ (x : Snapshot). Turned x.blocks (point_of x None (g.V.Sink.bytes c.args.vcd.now) (g.L.Sink.bytes c.args.lines.now))
    (point None (state_of c.leave.new.run) c.self.inside.recorder (g.V.Sink.bytes c.args.vcd.now) (g.L.Sink.bytes c.args.lines.now))) c.self.view_is
    (rouse_turned c.self.inside.blocks.items (state_of c.self.inside.running) (state_of c.leave.new.run) c.self.inside.recorder (g.V.Sink.bytes c.args.vcd.now) (g.L.Sink.bytes c.args.lines.now) enabled
    c.in_ok-leave-in-Inactive.ensures.made)

pub returns-in_ok-list_updates-in-Updates-clause-ok : goal.returns-in_ok-list_updates-in-Updates-clause-ok
returns-in_ok-list_updates-in-Updates-clause-ok g c =
    let enabled : is_enabled (state_of c.self.inside.running) Activate ≡ true = subst (λ (x : Region). is_enabled (state_of c.self.inside.running) (region_move x) ≡ true) c.in-Updates.is c.next_region.ensures in
    subst (λ (y : Snapshot). Turned c.args.self.now.blocks (point_of c.args.self.now None (g.V.Sink.bytes c.args.vcd.now) (g.L.Sink.bytes c.args.lines.now))
    (point_of y None (g.V.Sink.bytes c.args.vcd.now) (g.L.Sink.bytes c.args.lines.now))) (sym c.list_updates.ensures)
    (subst
    (λ (x : Snapshot). Turned x.blocks (point_of x None (g.V.Sink.bytes c.args.vcd.now) (g.L.Sink.bytes c.args.lines.now))
    (point None (state_of c.leave-in-Updates.new.run) c.self.inside.recorder (g.V.Sink.bytes c.args.vcd.now) (g.L.Sink.bytes c.args.lines.now))) c.self.view_is
    (activate_turned c.self.inside.blocks.items (state_of c.self.inside.running) (state_of c.leave-in-Updates.new.run) c.self.inside.recorder (g.V.Sink.bytes c.args.vcd.now)
    (g.L.Sink.bytes c.args.lines.now) enabled c.in_ok-leave-in-Updates.ensures.made))

pub returns-in_err-list_updates-in-Updates-clause-err : goal.returns-in_err-list_updates-in-Updates-clause-err
returns-in_err-list_updates-in-Updates-clause-err g c =
    let enabled : is_enabled (state_of c.self.inside.running) Activate ≡ true = subst (λ (x : Region). is_enabled (state_of c.self.inside.running) (region_move x) ≡ true) c.in-Updates.is c.next_region.ensures in
    on_err _
    (subst (λ (x : Snapshot). TurnedPart (point_of x None (g.V.Sink.bytes c.args.vcd.now) (g.L.Sink.bytes c.args.lines.now)) (g.V.Sink.bytes c.args.vcd.now) (g.L.Sink.bytes c.args.lines.now)) c.self.view_is
    (turned_part
    (activate_turned c.self.inside.blocks.items (state_of c.self.inside.running) (state_of c.leave-in-Updates.new.run) c.self.inside.recorder (g.V.Sink.bytes c.args.vcd.now)
    (g.L.Sink.bytes c.args.lines.now) enabled c.in_ok-leave-in-Updates.ensures.made)))
