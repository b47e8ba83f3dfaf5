-- How statements and their parts begin.
use Rattle.std.specs.Prelude.{◌≡◌, Bool, true, false, List, ◌∷◌}
use Rattle.vs_syntax.specs.vs_lexer.specs.declared.token.Mark.TheVariants as m
use Rattle.vs_syntax.specs.vs_lexer.specs.declared.token.Word.{Word}
use Rattle.vs_syntax.specs.vs_lexer.specs.declared.token.Word.TheVariants as w
use Rattle.vs_syntax.specs.Symbols.{Symbol, a_mark, a_word, a_print, a_finish, a_dump, Class, the_mark, any_name, any_number, class_of, first}
use Rattle.vs_syntax.specs.Grammar.{Grammar, nothing, ◌·◌, ◌or◌, many, part, mark, word, block_head, guarded, branches, case_items, for_parts, delay, event, print_arguments, finish_argument, dump_arguments, a_stmt}
use Rattle.vs_syntax.specs.declared.tree.Separator.{Separator}
use Rattle.vs_syntax.specs.declared.tree.Separator.TheVariants as r
use Rattle.vs_parser.specs.declared.head.StatementWord.{StatementWord}
use Rattle.vs_parser.specs.declared.head.StatementWord.TheVariants as s
use Rattle.vs_parser.specs.declared.head.StatementHead.{StatementHead}
use Rattle.vs_parser.specs.declared.head.StatementHead.TheVariants as h
use Rattle.vs_parser.specs.declared.head.DelayHead.{DelayHead}
use Rattle.vs_parser.specs.declared.head.DelayHead.TheVariants as d
use Rattle.vs_parser.specs.declared.head.EventHead.{EventHead}
use Rattle.vs_parser.specs.declared.head.EventHead.TheVariants as v

-- the first symbol of a statement that begins with the word, the mark or the system name
abbrev pub symbol_of : StatementWord → Symbol
symbol_of s.Null = a_mark m.Semicolon
symbol_of s.Block = a_word w.Begin
symbol_of s.If = a_word w.If
symbol_of s.Case = a_word w.Case
symbol_of s.Casez = a_word w.Casez
symbol_of s.Casex = a_word w.Casex
symbol_of s.For = a_word w.For
symbol_of s.While = a_word w.While
symbol_of s.Repeat = a_word w.Repeat
symbol_of s.Forever = a_word w.Forever
symbol_of s.Delay = a_mark m.Hash
symbol_of s.Event = a_mark m.At
symbol_of (s.Print task) = a_print task
symbol_of s.Finish = a_finish
symbol_of (s.Dump task) = a_dump task

-- what stands behind it
abbrev pub grammar_after : StatementWord → Grammar
grammar_after s.Null = nothing
grammar_after s.Block = block_head · many (part a_stmt) · word w.End
grammar_after s.If = guarded branches
grammar_after s.Case = guarded case_items
grammar_after s.Casez = guarded case_items
grammar_after s.Casex = guarded case_items
grammar_after s.For = for_parts
grammar_after s.While = guarded (part a_stmt)
grammar_after s.Repeat = guarded (part a_stmt)
grammar_after s.Forever = part a_stmt
grammar_after s.Delay = delay · part a_stmt
grammar_after s.Event = event · part a_stmt
grammar_after (s.Print task) = print_arguments · mark m.Semicolon
grammar_after s.Finish = finish_argument · mark m.Semicolon
grammar_after (s.Dump task) = dump_arguments · mark m.Semicolon

-- the symbols begin a statement so, and these stand behind the first one
abbrev pub BeginsStatement : List Symbol → StatementHead → List Symbol → Type 0
BeginsStatement ts h.Name after = first ts ≡ any_name
BeginsStatement ts h.Brace after = first ts ≡ the_mark m.OpenBrace
BeginsStatement ts (h.Word k) after = ts ≡ symbol_of k ∷ after

-- the class of the first symbol of a statement that begins so
abbrev pub class_of_statement : StatementHead → Class
class_of_statement h.Name = any_name
class_of_statement h.Brace = the_mark m.OpenBrace
class_of_statement (h.Word k) = class_of (symbol_of k)

-- the symbols begin a delay so, and these stand behind the first one
abbrev pub BeginsDelay : List Symbol → DelayHead → List Symbol → Type 0
BeginsDelay ts d.Number after = first ts ≡ any_number
BeginsDelay ts d.Name after = first ts ≡ any_name
BeginsDelay ts d.Open after = ts ≡ a_mark m.Open ∷ after

-- the symbols begin what an event control waits for so, and these stand behind the first one
abbrev pub BeginsEvent : List Symbol → EventHead → List Symbol → Type 0
BeginsEvent ts v.Star after = ts ≡ a_mark m.Star ∷ after
BeginsEvent ts v.Name after = first ts ≡ any_name
BeginsEvent ts v.Open after = ts ≡ a_mark m.Open ∷ after

-- what stands between two terms of an event control
abbrev pub separator_symbol : Separator → Symbol
separator_symbol r.Or = a_word w.Or
separator_symbol r.Comma = a_mark m.Comma

-- the word of an edge, or nothing (clause A.6.5)
abbrev pub edge_word : Grammar
edge_word = word w.Posedge or word w.Negedge or nothing

-- the word of a loop with an expression: `repeat`, else `while`
abbrev pub loop_word : Bool → Word
loop_word true = w.Repeat
loop_word false = w.While
