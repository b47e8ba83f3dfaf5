use Rattle.std.proofs.Common.{ℕ, List, ◌∙◌, ap}
use Rattle.vs_design.specs.Stores.{Store}
use Rattle.vs_process.specs.Choices.{repeat_lands}
use Rattle.vs_run_steps.specs.Runs.{counters_at}
use Rattle.vs_run_steps.proofs.RunsLemmas.{counter_read, counter_set}
use Rattle.vs_run_steps.proofs.run.RunState.repeat.Goals as goal

pub returns-clause-counters : goal.returns-clause-counters
returns-clause-counters g c =
    let store : Store = c.args.self.now.watched.store in
    let cs : List ℕ = counters_at c.args.number c.args.self.now in
    counter_set c.args.self.now.counters.items c.args.number c.index.new.counters (repeat_lands c.args.choice.now cs store c.args.self.now.regions.time).counters
    (c.index.ensures.counters
    ∙ ap (λ (l : List ℕ). (repeat_lands c.args.choice.now l store c.time-time.result).counters)
    (counter_read c.args.self.now.counters.items c.args.number c.index_mut.result.now c.requires c.index_mut.ensures.value)
    ∙ ap (λ (t : ℕ). (repeat_lands c.args.choice.now cs store t).counters) c.time-time.ensures)
