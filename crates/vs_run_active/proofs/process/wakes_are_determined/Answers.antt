use Rattle.vs_process.specs.Scripts.{todo_on}
use Rattle.vs_run_active.proofs.ProcessPlacesLemmas.{active_told, others_stay, roused_told, wakes_told, woken_told}
use Rattle.vs_run_active.proofs.process.wakes_are_determined.Goals as goal

pub returns : goal.returns
returns c = record {
  active = active_told;
  told = wakes_told;
  others = others_stay;
  roused = λ p counters. roused_told p.wait (todo_on p.script.now counters p.index);
  woken = λ time p counters. woken_told time p.wait (todo_on p.script.now counters p.index);
}
