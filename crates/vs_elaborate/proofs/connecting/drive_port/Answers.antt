use Rattle.std.proofs.Common.{[], ◌∷◌, ◌++◌, refl}
use Rattle.vs_elab_statements.specs.vs_scopes.proofs.AnswerLemmas.{told_part}
use Rattle.vs_elab_statements.specs.Members.{connected}
use Rattle.vs_elaborate.specs.passes.Filling.{port_faults, ConnectsNot}
use Rattle.vs_elaborate.proofs.FillingLemmas.{connects_push, port_of_connected}
use Rattle.vs_elab_statements.specs.vs_elab_signals.proofs.DeclareLemmas.{any_last}
use Rattle.vs_elaborate.proofs.PortLemmas.{outer_is}
use Rattle.vs_elaborate.proofs.connecting.drive_port.Goals as goal

pub returns-in_ok-push-in-Ok : goal.returns-in_ok-push-in-Ok
returns-in_ok-push-in-Ok c envs s f o start done r =
    let p = c.args.port.now in
    connects_push s c.args.assigns.now.items _ start done (connected p.direction p.name.now c.args.e.now) p.name.now _ c.in_ok-push-in-Ok.ensures.items (port_of_connected p.direction p.name.now c.args.e.now) (rw (c.deref.ensures.value, f.path) at c.in_ok-name-in-Ok.ensures) (rw (f.view.names, f.names, o) at c.in-Ok.ensures) r

pub returns-in-Err : goal.returns-in-Err
returns-in-Err c envs s f o start done r =
    let p = c.args.port.now in
    let d = connected p.direction p.name.now c.args.e.now in
    told_part (ConnectsNot s start (done ++ d ∷ [])) (λ r. port_faults s r d) s.around c.in-Err.fault c.outer_fault.result (λ r u. (any_last (port_faults s r) done d u, refl)) (rw (f.view.names, f.names, o) at c.in-Err.ensures)
    (rw (outer_is c.args.frame.now.path.items s f.path f.around) at c.outer_fault.ensures)
