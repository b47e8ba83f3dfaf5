use Rattle.std.proofs.Common.{◌++◌, subst, arith}
use Rattle.std.proofs.lemmas.List.{append-nil}
use Rattle.std.proofs.lemmas.Result.{err_from_is_err_and}
use Rattle.vs_syntax.specs.declared.tree.Declarator.{Declarator}
use Rattle.vs_elab_statements.specs.Members.{assignment_of, named_signal}
use Rattle.vs_elab_statements.specs.vs_scopes.specs.scopes_passes.Answers.{IsReported}
use Rattle.vs_elaborate.specs.passes.Filling.{Drives, DrivesNot}
use Rattle.vs_elab_statements.specs.vs_scopes.proofs.AnswerLemmas.{kept_more, kept_all, kept_fault}
use Rattle.vs_elaborate.proofs.FillingLemmas.{drives_not_more, assignment_some}
use Rattle.vs_elaborate.proofs.drivers.drive_declared.Goals as goal
use Rattle.vs_elaborate.proofs.drivers.drive_declared.Goals.{in-Some+in_ok-drive, in_default}

pub returns-in_err-drive : goal.returns-in_err-drive
returns-in_err-drive c envs s f =
    let p = err_from_is_err_and c.from_residual.result c.from_residual.ensures.1 in
    rw (p.1, p.2) (kept_fault (λ (d : Declarator). assignment_of d.name.items d.value) (Drives s c.args.assigns.now.items) (Drives s c.loop-declarator.assigns.items) (DrivesNot s) c.args.declarators.now c.loop-declarator.declarator-index c.declarator-item.result c.in_err-drive.field-0.0 (omega arith) c.declarator-item.is (drives_not_more s) (c.loop-declarator.invariant envs s f)
    (λ start done h. subst (λ z. IsReported (DrivesNot s start (done ++ z)) c.in_err-drive.field-0.0) (assignment_some c.declarator-item.result.name.items _ c.declarator-item.result.value c.in-Some.value c.deref.ensures.value c.in-Some.is)
    (c.in_err-drive.ensures envs s (record { target = named_signal c.deref.result.now; value = c.in-Some.value }) f (rw (f.view.names, f.names) at c.declared_assignment-sides.ensures) start done h)))

pub returns : goal.returns
returns c envs s f =
    kept_all (λ (d : Declarator). assignment_of d.name.items d.value) (Drives s c.args.assigns.now.items) (Drives s c.loop-declarator.assigns.items) c.args.declarators.now c.loop-declarator.declarator-index (omega arith) (c.loop-declarator.invariant envs s f)

pub loop-declarator-preserved : goal.loop-declarator-preserved
loop-declarator-preserved c envs s f =
    let d = c.declarator-item.result in
    kept_more (λ (d : Declarator). assignment_of d.name.items d.value) (Drives s c.args.assigns.now.items) (Drives s c.loop-declarator.assigns.items) (Drives s c.match-declarator.assigns.items) c.args.declarators.now c.loop-declarator.declarator-index d (omega arith) c.declarator-item.is (c.loop-declarator.invariant envs s f)
    (elim c.match-declarator.branch [
      | in-Some+in_ok-drive w ↦ λ start done h. rw w.assigns-is (subst (λ z. Drives s w.drive.new.assigns.items start (done ++ z)) (assignment_some d.name.items _ d.value w.in-Some.value w.deref.ensures.value w.in-Some.is)
          (w.in_ok-drive.ensures envs s (record { target = named_signal w.deref.result.now; value = w.in-Some.value }) f (rw (f.view.names, f.names) at w.declared_assignment-sides.ensures) start done h))
      | in_default w ↦ λ start done h. rw (w.assigns-is, w.in_default.is, append-nil) h
    ])
