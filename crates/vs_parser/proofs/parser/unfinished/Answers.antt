use Rattle.vs_parser.proofs.Faulty.{no_tokens}
use Rattle.vs_parser.proofs.parser.unfinished.Goals as goal

pub unreachable-requires : goal.unreachable-requires
unreachable-requires c = no_tokens _ c.requires c.in_default.ensures.cases
