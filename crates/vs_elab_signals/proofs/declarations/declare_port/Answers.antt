use Rattle.std.proofs.Common.{None, refl, subst}
use Rattle.vs_scopes.specs.Ranges.{words_as}
use Rattle.vs_scopes.specs.Declarations.{size_of_kind, declared_by_port}
use Rattle.vs_scopes.specs.scopes_passes.Answers.{IsRefusal}
use Rattle.vs_scopes.specs.scopes_passes.Parts.{read_port}
use Rattle.vs_elab_signals.proofs.DeclareLemmas.{size_wrong, declared_right, ports_wrong, ports_push, port_size_at, port_words}
use Rattle.vs_elab_signals.proofs.declarations.declare_port.Goals as goal

pub returns-in-Err : goal.returns-in-Err
returns-in-Err c s i start done h =
    let x = read_port c.args.port.now in
    let z = size_of_kind s.known x.kind x.form in
    let f = c.in-Err.fault in
    let e = port_size_at s.known x.kind x.form _ _ i.known_is c.port_size.ensures in
    ports_wrong s start done (declared_by_port s.known x) f c.part_fault.result (size_wrong s.known x.kind z None x.name f (rw c.in-Err.is at e)) (subst (λ y. IsRefusal y f c.part_fault.result) i.path_is c.part_fault.ensures)

pub returns : goal.returns
returns c s i =
    let x = read_port c.args.port.now in
    let z = size_of_kind s.known x.kind x.form in
    let e = port_size_at s.known x.kind x.form _ _ i.known_is c.port_size.ensures in
    let m = rw c.in-Ok.is at e in
    ports_push s c.args.names.now _ c.args.plan.now _ (declared_by_port s.known x) _ (declared_right s.known x.kind z None x.name m.0 (λ r. port_words s.known x.kind r)) (c.add_signal.ensures s z (words_as s.known x.kind None) i.path_is m.1 (record { bounds = refl; count = refl }))
