use Rattle.std.proofs.Common.{refl}
use Rattle.vs_parser.proofs.PortLemmas.{no_value}
use Rattle.vs_parser.proofs.port.port_value.Goals as goal

pub returns-in-Nothing : goal.returns-in-Nothing
returns-in-Nothing c = no_value c.args.said c.args.depth _ _ _ (rw c.in-Nothing.is refl) c.without_value.ensures.none c.without_value.ensures.rest

pub returns-in-Net : goal.returns-in-Net
returns-in-Net c = no_value c.args.said c.args.depth _ _ _ (rw c.in-Net.is refl) c.without_value-in-Net.ensures.none c.without_value-in-Net.ensures.rest
