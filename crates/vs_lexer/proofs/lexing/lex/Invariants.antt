use Rattle.std.proofs.Common.{length}
use Rattle.vs_lexer.specs.Tokens.{lexemes}
use Rattle.vs_lexer.proofs.Spelled.{ReadSoFar}
use Rattle.vs_lexer.proofs.lexing.lex.Given as goal

abbrev pub invariant-loop-rest : goal.invariant-loop-rest
invariant-loop-rest l = ReadSoFar l.source (lexemes l.tokens.items) l.rest

abbrev pub decreases-loop-rest : goal.decreases-loop-rest
decreases-loop-rest l = length l.rest
