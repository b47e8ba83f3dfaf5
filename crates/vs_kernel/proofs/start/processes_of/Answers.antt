use Rattle.std.proofs.Common.{◌≡◌, ◌∙◌, ◌+◌, ◌∷◌, ◌++◌, [], ℕ, List, take, sym, ap, subst}
use Rattle.std.proofs.lemmas.List.{take_more}
use Rattle.vs_process.specs.Texts.{Text}
use Rattle.vs_run_active.specs.ProcessPlaces.{IsWaitOf}
use Rattle.vs_kernel.specs.Starting.{AreStarted}
use Rattle.vs_kernel.proofs.StartLemmas.{started_more}
use Rattle.vs_kernel.proofs.start.processes_of.Goals as goal

pub loop-script-preserved : goal.loop-script-preserved
loop-script-preserved c =
    let scripts : List Text = c.args.scripts.now in
    let i : ℕ = c.loop-script.script-index in
    let x : Text = c.script-item.result in
    let taken : take (i + 1) scripts ≡ take i scripts ++ x ∷ [] =
    take_more scripts i x c.loop-script-test.true ∙ ap (λ (y : Text). take i scripts ++ y ∷ []) (sym c.script-item.is)
    in
    subst (λ (l : List Text). AreStarted l c.push.new.self) (sym taken)
    (subst (AreStarted (take i scripts ++ x ∷ [])) (sym c.in_ok-push.ensures.pushed)
    (started_more (take i scripts) c.loop-script.processes x c.start.result c.loop-script.invariant (record { script = c.start.ensures.script; place = c.start.ensures.place; waits = subst (λ (t : Text). IsWaitOf t c.start.result.wait) c.start.ensures.script c.start.ensures.waits })))
