use Rattle.std.proofs.Common.{ℕ, List, [], get_or, arith}
use Rattle.std.specs.Borrow.{Bor}
use Rattle.std.proofs.lemmas.Result.{err_from_is_err_and}
use Rattle.vs_scopes.specs.scopes_passes.Names.{read_path}
use Rattle.vs_elab_signals.specs.signal_passes.Naming.{BoundAfter, BoundNot}
use Rattle.vs_scopes.proofs.AnswerLemmas.{one_more, one_all, one_fault}
use Rattle.vs_elab_signals.proofs.BindLemmas.{bound_not_more, alikes_bind, alike_bind}
use Rattle.vs_design.specs.vs_logic4.proofs.Basics.{get_or_same}
use Rattle.vs_elab_signals.proofs.naming.bind_all.Goals as goal

pub returns-in_err-bind : goal.returns-in_err-bind
returns-in_err-bind c =
    let p = err_from_is_err_and c.from_residual.result c.from_residual.ensures.1 in
    let x : Bor (List ℕ) = get_or c.args.list.now c.loop-name.name-index (record { ref_ptr = (0, 0); now = [] }) in
    rw (p.1, p.2) (rw (alikes_bind c.args.binding c.args.list.now) (one_fault (alike_bind c.args.binding) (BoundAfter c.args.names.now) (BoundAfter c.loop-name.names) (BoundNot (read_path c.args.path.now)) c.args.list.now c.loop-name.name-index x c.in_err-bind.field-0.0 (omega arith) (get_or_same c.args.list.now c.loop-name.name-index _ (omega arith)) (bound_not_more (read_path c.args.path.now)) (rw (alikes_bind c.args.binding) at c.loop-name.invariant) c.in_err-bind.ensures))

pub returns : goal.returns
returns c = rw (alikes_bind c.args.binding c.args.list.now) (one_all (alike_bind c.args.binding) (BoundAfter c.args.names.now) (BoundAfter c.loop-name.names) c.args.list.now c.loop-name.name-index (omega arith) (rw (alikes_bind c.args.binding) at c.loop-name.invariant))

pub loop-name-preserved : goal.loop-name-preserved
loop-name-preserved c =
    let x : Bor (List ℕ) = get_or c.args.list.now c.loop-name.name-index (record { ref_ptr = (0, 0); now = [] }) in
    rw (alikes_bind c.args.binding) (one_more (alike_bind c.args.binding) (BoundAfter c.args.names.now) (BoundAfter c.loop-name.names) (BoundAfter c.bind.new.names) c.args.list.now c.loop-name.name-index x (omega arith) (get_or_same c.args.list.now c.loop-name.name-index _ (omega arith)) (rw (alikes_bind c.args.binding) at c.loop-name.invariant) c.in_ok-bind.ensures)
