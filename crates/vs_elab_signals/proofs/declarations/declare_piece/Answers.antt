use Rattle.vs_elab_signals.specs.signal_passes.Declaring.{Declares}
use Rattle.vs_elab_signals.proofs.DeclareLemmas.{kept_still, quiet_piece}
use Rattle.vs_elab_signals.proofs.declarations.declare_piece.Goals as goal

pub returns-in-Plain : goal.returns-in-Plain
returns-in-Plain c s i = rw c.in-Plain.is (c.declare_item.ensures s i)

pub returns-in-Local : goal.returns-in-Local
returns-in-Local c s i = rw c.in-Local.is (c.declare_locally.ensures s i)

pub returns-in-Net : goal.returns-in-Net
returns-in-Net c s i = rw c.in-Net.is (c.declare_net.ensures s i)

pub returns-in_default : goal.returns-in_default
returns-in_default c s i = kept_still (Declares s c.args.to.now c.args.plan.now) _ (quiet_piece s.known c.args.piece c.in_default.not-Plain c.in_default.not-Local c.in_default.not-Net)
