use Rattle.std.proofs.Common.{◌<◌, [], length, map, refl, ap, sym, ◌∙◌, arith}
use Rattle.std.proofs.lemmas.Result.{err_from_is_err_and}
use Rattle.vs_elab_statements.specs.vs_scopes.specs.Scopes.{is_wrong_end}
use Rattle.vs_elab_statements.specs.vs_scopes.specs.scopes_passes.Parts.{read_port, read_end}
use Rattle.vs_elab_statements.specs.vs_scopes.proofs.AnswerLemmas.{kept_none}
use Rattle.vs_elab_statements.specs.Members.{port_driver, port_drivers}
use Rattle.vs_elaborate.specs.passes.Filling.{Connects, ConnectsNot}
use Rattle.vs_elaborate.proofs.FillingLemmas.{connects_not_more}
use Rattle.vs_elaborate.proofs.PortLemmas.{left_at, kept_to_more, kept_to_skip, kept_to_end, kept_to_fault}
use Rattle.vs_design.specs.vs_logic4.proofs.Basics.{get_or_same as again}
use Rattle.vs_elaborate.proofs.connecting.drive_ports.Goals as goal
use Rattle.vs_elaborate.proofs.connecting.drive_ports.Goals.{in-Some+in_ok-drive_port, in_default}

pub loop-place-init : goal.loop-place-init
loop-place-init c = λ envs s f o. ([], refl, kept_none (Connects s c.args.assigns.now.items))

pub drive_port-requires : goal.drive_port-requires
drive_port-requires c =
    let ps = c.args.ports.now in
    let es = c.args.ends.now in
    let port : c.loop-place.place < length ps = omega (arith, c.loop-place-test.true, c.min-count.ensures) in
    let end : c.loop-place.place < length es = omega (arith, c.loop-place-test.true, c.min-count.ensures) in
    ap (λ z. is_wrong_end (read_port c.index-ports-place.result) (read_end z)) (sym c.in-Some.is) ∙
    left_at read_port read_end ps es c.loop-place.place c.index-ports-place.result _ port end c.index-ports-place.is (again es c.loop-place.place _ end) c.requires

pub returns-in_err-drive_port : goal.returns-in_err-drive_port
returns-in_err-drive_port c envs s f o =
    let p = err_from_is_err_and c.from_residual.result c.from_residual.ensures.1 in
    let ps = c.args.ports.now in
    let es = c.args.ends.now in
    let all = port_drivers (map read_port ps) (map read_end es) in
    let port : c.loop-place.place < length ps = omega (arith, c.loop-place-test.true, c.min-count.ensures) in
    let end : c.loop-place.place < length es = omega (arith, c.loop-place-test.true, c.min-count.ensures) in
    rw (p.1, p.2) (kept_to_fault read_port read_end all ps es (Connects s c.args.assigns.now.items) (Connects s c.loop-place.assigns.items) (ConnectsNot s) c.loop-place.place c.index-ports-place.result _ _ c.in_err-drive_port.field-0.0 port end c.index-ports-place.is (again es c.loop-place.place _ end)
    (ap (λ z. port_driver (read_port c.index-ports-place.result) (read_end z)) c.in-Some.is) (connects_not_more s) (c.loop-place.invariant envs s f o) (c.in_err-drive_port.ensures envs s f o))

pub loop-place-preserved : goal.loop-place-preserved
loop-place-preserved c = λ envs s f o.
    let ps = c.args.ports.now in
    let es = c.args.ends.now in
    let all = port_drivers (map read_port ps) (map read_end es) in
    let port : c.loop-place.place < length ps = omega (arith, c.loop-place-test.true, c.min-count.ensures) in
    let end : c.loop-place.place < length es = omega (arith, c.loop-place-test.true, c.min-count.ensures) in
    elim c.match-ends-place.branch [
      | in-Some+in_ok-drive_port w ↦ rw w.assigns-is (kept_to_more read_port read_end all ps es (Connects s c.args.assigns.now.items) (Connects s c.loop-place.assigns.items) (Connects s w.drive_port.new.assigns.items) c.loop-place.place w.index-ports-place.result _ _ port end w.index-ports-place.is (again es c.loop-place.place _ end)
          (ap (λ z. port_driver (read_port w.index-ports-place.result) (read_end z)) w.in-Some.is) (c.loop-place.invariant envs s f o) (w.in_ok-drive_port.ensures envs s f o))
      | in_default w ↦ rw w.assigns-is (kept_to_skip read_port read_end all ps es (Connects s c.args.assigns.now.items) (Connects s c.loop-place.assigns.items) c.loop-place.place _ port end (again es c.loop-place.place _ end)
          (λ q. ap (λ z. port_driver (read_port q) (read_end z)) w.in_default.is) (c.loop-place.invariant envs s f o))
    ]

pub returns : goal.returns
returns c envs s f o =
    let ps = c.args.ports.now in
    let es = c.args.ends.now in
    kept_to_end read_port read_end (port_drivers (map read_port ps) (map read_end es)) ps es (Connects s c.args.assigns.now.items) (Connects s c.loop-place.assigns.items) c.loop-place.place (omega (arith, c.loop-place-test.false, c.min-count.ensures)) (c.loop-place.invariant envs s f o)
