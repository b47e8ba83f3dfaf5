use Rattle.std.proofs.Common.{refl}
use Rattle.vs_lexer.proofs.Readers.{directive_reads, lone_backquote}
use Rattle.vs_lexer.proofs.directives.read_directive.Goals as goal

pub returns-in_default : goal.returns-in_default
returns-in_default c = lone_backquote _ _ _ c.in_default.ensures refl refl

pub returns : goal.returns
returns c = directive_reads _ _ _ _ c.in-Some.ensures refl
