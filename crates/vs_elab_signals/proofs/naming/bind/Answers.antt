use Rattle.vs_scopes.specs.scopes_passes.Names.{read_path}
use Rattle.vs_elab_signals.proofs.BindLemmas.{binds_push, binds_twice}
use Rattle.vs_elab_signals.proofs.naming.bind.Goals as goal

pub returns-then-branch : goal.returns-then-branch
returns-then-branch c start done h = binds_push c.args.names.now _ start done c.args.name.now c.args.binding (rw c.if-branch.true at c.in_ok-declare_once.ensures) h

pub returns-else-branch : goal.returns-else-branch
returns-else-branch c start done h = binds_twice (read_path c.args.path.now) c.args.names.now start done c.args.name.now c.args.binding c.member_fault.result c.member_fault.ensures (rw c.if-branch.false at c.in_ok-declare_once.ensures) h
