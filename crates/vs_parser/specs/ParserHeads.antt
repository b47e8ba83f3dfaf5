-- What stands between modules, and how it begins.
use Rattle.vs_syntax.specs.vs_lexer.specs.declared.token.Word.TheVariants as w
use Rattle.vs_syntax.specs.Symbols.{Symbol, a_word, a_directive, the_directive}
use Rattle.vs_syntax.specs.Grammar.{Grammar, token, ◌or◌, part, a_module}
use Rattle.vs_parser.specs.declared.parser_head.SourceHead.{SourceHead}
use Rattle.vs_parser.specs.declared.parser_head.SourceHead.TheVariants as s

-- a module, or a directive (clauses A.1.2 and 19.2)
abbrev pub module_or_directive : Grammar
module_or_directive = part a_module or token the_directive

-- the first symbol of it
abbrev pub source_symbol : SourceHead → Symbol
source_symbol s.Module = a_word w.Module
source_symbol (s.Directive x) = a_directive x
