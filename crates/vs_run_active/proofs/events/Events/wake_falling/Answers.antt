use Rattle.std.proofs.Common.{List, ap, ◌∙◌, arith}
use Rattle.vs_design.specs.vs_logic4.specs.declared.edge.Edge.TheVariants.{Negedge}
use Rattle.vs_run_active.specs.declared.watchers.Watcher.{Watcher}
use Rattle.vs_run_active.specs.Wakes.{walked_by}
use Rattle.vs_run_active.proofs.EdgesExist.{edge_number, edge_number-fits, falls-are}
use Rattle.vs_run_active.proofs.WakesLemmas.{none_between}
use Rattle.vs_run_active.proofs.events.Events.wake_falling.Goals as goal

pub returns-then-row-clause-processes : goal.returns-then-row-clause-processes
returns-then-row-clause-processes c = λ before after of. record {
  number = edge_number Negedge before after;
  fits = edge_number-fits Negedge before after of.limit;
  edges = falls-are before after of.size;
  new_is = none_between c.args.word (edge_number Negedge before after) c.args.row.falling c.args.row.end c.args.tables.now.watchers.items c.args.self.now.processes c.if-row.true;
}

pub returns-clause-processes : goal.returns-clause-processes
returns-clause-processes c = λ before after of. record {
  number = c.falling-falls.result;
  fits = omega arith;
  edges = c.falling-falls.ensures before after of;
  new_is = c.in_ok-wake_some.ensures.processes ∙ ap (λ (ws : List Watcher). walked_by c.args.word c.falling-falls.result ws c.args.self.now.processes) c.falling.ensures;
}
