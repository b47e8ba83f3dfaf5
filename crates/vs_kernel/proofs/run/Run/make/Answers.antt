use Rattle.std.proofs.Common.{◌≡◌, ◌∙◌, true, [], refl, sym, ap, subst, arith, None}
use Rattle.vs_run_active.specs.vs_process.specs.Blocks.{is_step_of_any}
use Rattle.vs_run_active.specs.vs_process.proofs.Results.{on_err}
use Rattle.vs_kernel.specs.Running.{IsActive, move_of}
use Rattle.vs_kernel.specs.Snapshot.{IsSnapshot, Snapshot}
use Rattle.vs_run_steps.specs.Runs.{running_of, state_of}
use Rattle.vs_run_steps.proofs.Appending.{part_all}
use Rattle.vs_kernel.proofs.SnapshotLemmas.{chosen_moved, chosen_moved_part, chosen_standing, told_same, first_moved, first_outside, standing_on}
use Rattle.vs_kernel.proofs.run.Run.make.Goals as goal

pub returns-in_err-run_event-clause-err : goal.returns-in_err-run_event-clause-err
returns-in_err-run_event-clause-err g c =
    let active = subst (λ (x : Snapshot). IsActive x.running c.args.event) (sym c.self.view_is) c.requires.active in
    let free = subst (λ (x : Snapshot). is_step_of_any x.inside (move_of x.running c.args.event) ≡ true) (sym c.self.view_is) c.requires.free in
    on_err _
    (chosen_moved_part c.args.self.now _ c.args.event c.self.view_is c.requires.limit (ap (λ (x : Snapshot). (state_of x.running).over) c.self.view_is ∙ c.requires.going)
    (c.requires.single c.if-chooses.true) active.1 free (c.in_err-run_event.ensures.part refl))

pub returns-in_err-follow-clause-err : goal.returns-in_err-follow-clause-err
returns-in_err-follow-clause-err g c =
    let active = subst (λ (x : Snapshot). IsActive x.running c.args.event) (sym c.self.view_is) c.requires.active in
    let free = subst (λ (x : Snapshot). is_step_of_any x.inside (move_of x.running c.args.event) ≡ true) (sym c.self.view_is) c.requires.free in
    let h = c.in_ok-run_event.ensures in
    let one : c.in_ok-run_event.field-0 ≡ 1 = (let within = (h.ok []).within in omega (arith, within, h.some)) in
    on_err _
    (chosen_moved_part c.args.self.now _ c.args.event c.self.view_is c.requires.limit (ap (λ (x : Snapshot). (state_of x.running).over) c.self.view_is ∙ c.requires.going)
    (c.requires.single c.if-chooses.true) active.1 free (part_all _ _ _ (h.one one (c.requires.single c.if-chooses.true)).printed))

pub returns-then-chooses-clause-run : goal.returns-then-chooses-clause-run
returns-then-chooses-clause-run g c =
    let here = subst IsSnapshot (sym c.self.view_is) c.requires.run in
    let chosen = ap (λ (x : Snapshot). x.chooses) c.self.view_is ∙ c.requires.chooses ∙ c.if-chooses.true in
    c.follow.ensures.run
    (chosen_standing _ (running_of c.run_event.new.run) _ (move_of c.run_event.new.run c.args.event) here chosen c.in_ok-run_event.ensures.run c.in_ok-run_event.ensures.marked
    c.inside_after-self-inside.ensures)

pub returns-then-chooses-clause-ok : goal.returns-then-chooses-clause-ok
returns-then-chooses-clause-ok g c =
    let active = subst (λ (x : Snapshot). IsActive x.running c.args.event) (sym c.self.view_is) c.requires.active in
    let free = subst (λ (x : Snapshot). is_step_of_any x.inside (move_of x.running c.args.event) ≡ true) (sym c.self.view_is) c.requires.free in
    let h = c.in_ok-run_event.ensures in
    let single = c.requires.single c.if-chooses.true in
    let one : c.in_ok-run_event.field-0 ≡ 1 = (let within = (h.ok []).within in omega (arith, within, h.some)) in
    chosen_moved c.args.self.now _ (running_of c.run_event.new.run) c.follow.new.self c.args.event c.self.view_is c.requires.limit single active.1 free (h.one one single)
    (ap (λ (x : Snapshot). (state_of x.running).over) c.self.view_is ∙ c.requires.going) (h.ok []).going (h.ok []).time
    (ap (λ (x : Snapshot). x.inside) c.follow.ensures.same ∙ c.inside_after-self-inside.ensures
    ∙ told_same c.self.inside.blocks.items (state_of c.run_event.new.run).places c.run_event.new.run c.self.inside.running c.args.event single)
    (ap (λ (x : Snapshot). x.writer) c.follow.ensures.same) c.follow.ensures.state

pub returns-clause-run : goal.returns-clause-run
returns-clause-run g c =
    let none : c.args.self.now.inside ≡ None = first_outside c.args.self.now c.requires.run (c.requires.chooses ∙ c.if-chooses.false) in
    standing_on _ _ c.self-2.view_is c.requires.run none (running_of c.run_event-2.new.run) c.in_ok-taken.ensures.run c.in_ok-taken.ensures.marked

pub returns-clause-ok : goal.returns-clause-ok
returns-clause-ok g c =
    let none : c.args.self.now.inside ≡ None = first_outside c.args.self.now c.requires.run (c.requires.chooses ∙ c.if-chooses.false) in
    first_moved _ _ _ (running_of c.run_event-2.new.run) c.self-2.view_is none refl (c.in_ok-taken.ensures.ok c.self-2.inside.blocks.items)
