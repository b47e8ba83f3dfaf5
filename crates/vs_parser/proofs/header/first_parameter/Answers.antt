use Rattle.std.proofs.Common.{refl}
use Rattle.vs_syntax.specs.Reading.{stuck_here, stuck_first}
use Rattle.vs_parser.proofs.header.first_parameter.Goals as goal

pub returns-in-None : goal.returns-in-None
returns-in-None c = stuck_first (stuck_first (stuck_here refl c.in-None.ensures))
