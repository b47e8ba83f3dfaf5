use Rattle.std.proofs.Common.{[], ◌∷◌, refl, sym, ◌∙◌, ap}
use Rattle.std.proofs.lemmas.Result.{on_ok_weaker}
use Rattle.vs_design.specs.Writes.{Write}
use Rattle.vs_process.proofs.ChosenLemmas.{chosen_read, chosen_written}
use Rattle.vs_run_active.specs.vs_process.specs.States.{written}
use Rattle.vs_run_steps.specs.Runs.{state_of}
use Rattle.vs_run_steps.proofs.run.RunState.assign_chosen.Goals as goal

pub part-part-requires : goal.part-part-requires
part-part-requires g c = chosen_read g.plan.design.signals c.args.place.now c.args.self.now.watched.store c.requires.1.1.0 c.requires.1.0.store

pub returns-in_default-clause-state : goal.returns-in_default-clause-state
returns-in_default-clause-state g c =
    on_ok_weaker c.write_any.result
    (λ h.
    h
    ∙ ap (λ (w : Write). written (state_of c.args.self.now) w)
    (chosen_written c.args.place.now c.args.e.now c.args.self.now.watched.store c.time-time.result c.args.self.now.regions.time c.cut_value-value.result c.part-part.result c.one-write.result
    c.one-write.ensures c.part-part.ensures c.cut_value-value.ensures c.time-time.ensures))
    c.write_any.ensures.state

pub returns-clause-state : goal.returns-clause-state
returns-clause-state g c =
    c.in_ok-write.ensures.state
    ∙ ap (λ (w : Write). written (state_of c.args.self.now) w)
    (sym c.in-Some.ensures.write
    ∙ chosen_written c.args.place.now c.args.e.now c.args.self.now.watched.store c.time-time.result c.args.self.now.regions.time c.cut_value-value.result c.part-part.result (c.part-part.result ∷ [])
    refl c.part-part.ensures c.cut_value-value.ensures c.time-time.ensures)
