use Rattle.std.proofs.Common.{◌≡◌, ◌∙◌, sym, ap}
use Rattle.vs_process.specs.declared.gait.Gait.TheVariants.{Inside}
use Rattle.vs_process.specs.Places.{is_inside}
use Rattle.vs_process.specs.Scripts.{todo_on}
use Rattle.vs_run_active.specs.declared.process.Wait.{Wait}
use Rattle.vs_run_active.specs.declared.process.Wait.TheVariants.{Nothing}
use Rattle.vs_run_active.specs.ProcessPlaces.{place_by}
use Rattle.vs_run_active.proofs.ProcessPlacesLemmas.{inside_by_flags}
use Rattle.vs_run_active.proofs.process.Process.is_inside.Goals as goal

pub returns-in-Nothing-Inside : goal.returns-in-Nothing-Inside
returns-in-Nothing-Inside c = λ counters.
    let gait : c.in-Nothing-Inside.field-0 ≡ Inside = rw c.in-Nothing-Inside.is at c.in-Nothing-Inside.field-0-is in
    let wait : c.args.self.now.wait ≡ Nothing Inside = c.in-Nothing-Inside.is ∙ ap Nothing gait in
    inside_by_flags _ _ (c.has_more.ensures counters)
    ∙ ap (λ (w : Wait). is_inside (place_by w (todo_on c.args.self.now.script.now counters c.args.self.now.index))) (sym wait)
