use Rattle.std.proofs.Common.{◌∙◌, sym, ap}
use Rattle.vs_process.specs.Places.{is_going}
use Rattle.vs_process.specs.Scripts.{todo_on}
use Rattle.vs_run_active.specs.declared.process.Wait.{Wait}
use Rattle.vs_run_active.specs.ProcessPlaces.{place_by}
use Rattle.vs_run_active.proofs.ProcessPlacesLemmas.{going_told}
use Rattle.vs_run_active.proofs.process.Process.is_going.Goals as goal

pub returns-in-Nothing : goal.returns-in-Nothing
returns-in-Nothing c = λ counters.
    going_told _ _ _ (c.has_more.ensures counters)
    ∙ ap (λ (w : Wait). is_going (place_by w (todo_on c.args.self.now.script.now counters c.args.self.now.index))) (sym c.in-Nothing.is)
