use Rattle.std.proofs.Common.{[], ◌∷◌, ◌++◌, refl, arith}
use Rattle.vs_elab_statements.specs.vs_scopes.proofs.AnswerLemmas.{told_part}
use Rattle.vs_elaborate.specs.passes.Filling.{text_faults, DrivesNot}
use Rattle.vs_elaborate.proofs.FillingLemmas.{drives_push}
use Rattle.vs_elab_statements.specs.vs_elab_signals.proofs.DeclareLemmas.{any_last}
use Rattle.vs_elaborate.proofs.drivers.drive.Goals as goal

pub returns-in_ok-push-in-Ok : goal.returns-in_ok-push-in-Ok
returns-in_ok-push-in-Ok c envs s a f e start done r =
    drives_push s c.len-number.result c.args.assigns.now.items _ start done a _ c.in_ok-push-in-Ok.ensures.items (omega (arith, c.len-number.ensures, c.args.assigns.now.ok.0)) (rw (c.deref.ensures.value, f.path) at c.in_ok-name-in-Ok.ensures) (rw c.in-Ok.is at e) r

pub returns-in-Err : goal.returns-in-Err
returns-in-Err c envs s a f e start done r =
    told_part (DrivesNot s start (done ++ a ∷ [])) (λ r. text_faults s r a) s.path c.in-Err.fault c.part_fault.result (λ r u. (any_last (text_faults s r) done a u, refl)) (rw c.in-Err.is at e) (rw f.path at c.part_fault.ensures)
