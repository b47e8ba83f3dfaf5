use Rattle.std.proofs.Common.{arith}
use Rattle.std.proofs.lemmas.Result.{err_from_is_err_and}
use Rattle.vs_scopes.specs.scopes_passes.Names.{read_path}
use Rattle.vs_elab_signals.specs.signal_passes.Naming.{BoundAfter, BoundNot}
use Rattle.vs_scopes.proofs.AnswerLemmas.{one_more, one_all, one_fault}
use Rattle.vs_elab_signals.proofs.BindLemmas.{bound_not_more, constants_bind, constant_bind}
use Rattle.vs_elab_signals.proofs.naming.bind_constants.Goals as goal

pub returns-in_err-bind : goal.returns-in_err-bind
returns-in_err-bind c =
    let p = err_from_is_err_and c.from_residual.result c.from_residual.ensures.1 in
    let cs = c.args.constants.now in
    rw (p.1, p.2) (rw (constants_bind cs) (one_fault constant_bind (BoundAfter c.args.names.now) (BoundAfter c.loop-constant.names) (BoundNot (read_path c.args.path.now)) cs c.loop-constant.constant-index c.constant-item.result c.in_err-bind.field-0.0 (omega arith) c.constant-item.is (bound_not_more (read_path c.args.path.now)) (rw constants_bind at c.loop-constant.invariant) c.in_err-bind.ensures))

pub returns : goal.returns
returns c =
    let cs = c.args.constants.now in
    rw (constants_bind cs) (one_all constant_bind (BoundAfter c.args.names.now) (BoundAfter c.loop-constant.names) cs c.loop-constant.constant-index (omega arith) (rw constants_bind at c.loop-constant.invariant))

pub loop-constant-preserved : goal.loop-constant-preserved
loop-constant-preserved c =
    let cs = c.args.constants.now in
    rw constants_bind (one_more constant_bind (BoundAfter c.args.names.now) (BoundAfter c.loop-constant.names) (BoundAfter c.bind.new.names) cs c.loop-constant.constant-index c.constant-item.result (omega arith) c.constant-item.is (rw constants_bind at c.loop-constant.invariant) c.in_ok-bind.ensures)
