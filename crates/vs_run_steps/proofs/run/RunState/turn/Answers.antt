use Rattle.std.proofs.Common.{ℕ, List, ◌∙◌, ap}
use Rattle.vs_process.specs.Choices.{turns_lands}
use Rattle.vs_run_steps.specs.Runs.{counters_at}
use Rattle.vs_run_steps.proofs.RunsLemmas.{counter_read, counter_set}
use Rattle.vs_run_steps.proofs.run.RunState.turn.Goals as goal

pub returns-clause-counters : goal.returns-clause-counters
returns-clause-counters g c =
    counter_set c.args.self.now.counters.items c.args.number c.index.new.counters (turns_lands c.args.choice.now (counters_at c.args.number c.args.self.now)).counters
    (c.index.ensures.counters
    ∙ ap (λ (l : List ℕ). (turns_lands c.args.choice.now l).counters) (counter_read c.args.self.now.counters.items c.args.number c.index_mut.result.now c.requires c.index_mut.ensures.value))
