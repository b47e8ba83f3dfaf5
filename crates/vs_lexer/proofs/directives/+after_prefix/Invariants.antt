use Rattle.std.proofs.Common.{length}
use Rattle.vs_lexer.proofs.directives.+after_prefix.Given as goal

abbrev pub decreases-after_prefix : goal.decreases-after_prefix
decreases-after_prefix l = length l.text.now
