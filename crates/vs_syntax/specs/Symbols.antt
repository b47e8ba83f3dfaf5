-- Tokens as the grammar sees them.
use Rattle.std.specs.Prelude.{ℕ, Bool, true, false, List, [], ◌∷◌, if◌then◌else◌, codes, map}
use Rattle.std.specs.Str.{bytes_eq}
use Rattle.vs_lexer.specs.declared.token.Directive.{Directive}
use Rattle.vs_lexer.specs.declared.token.Kind.{Kind}
use Rattle.vs_lexer.specs.declared.token.Kind.TheVariants as k
use Rattle.vs_lexer.specs.declared.token.Literal.{Literal}
use Rattle.vs_lexer.specs.declared.token.Mark.{Mark}
use Rattle.vs_lexer.specs.declared.token.Mark.TheVariants as m
use Rattle.vs_lexer.specs.declared.token.Word.{Word}
use Rattle.vs_lexer.specs.contracts.token.Mark as marks
use Rattle.vs_lexer.specs.contracts.token.Word as words
use Rattle.vs_lexer.specs.Texts.{text_value}
use Rattle.vs_lexer.specs.Tokens.{Lexeme, name_of}
use Rattle.vs_syntax.specs.declared.tree.PrintTask.{PrintTask}
use Rattle.vs_syntax.specs.declared.tree.PrintTask.TheVariants.{Display, Strobe}
use Rattle.vs_syntax.specs.declared.tree.DumpTask.{DumpTask}
use Rattle.vs_syntax.specs.declared.tree.DumpTask.TheVariants.{File, Vars}
use denote.Enum.Bare.{sameb}

-- A token without its place (IEEE 1364-2005, clause 3.1).
pub data Symbol : Type 0 where
  a_mark : Mark → Symbol
  a_word : Word → Symbol
  -- a name by its own bytes
  a_name : List ℕ → Symbol
  a_number : Literal → Symbol
  -- `$signed`, else `$unsigned` (clause 5.5)
  a_cast : Bool → Symbol
  -- a text by its own bytes, escapes resolved (clause 3.6)
  a_text : List ℕ → Symbol
  -- `$display` or `$strobe` (clause 17.1)
  a_print : PrintTask → Symbol
  -- `$finish` (clause 17.4.1)
  a_finish : Symbol
  -- `$dumpfile` or `$dumpvars` (clauses 18.1.1 and 18.1.2)
  a_dump : DumpTask → Symbol
  -- `$time` (clause 17.7.1)
  a_time : Symbol
  -- a directive (clause 19)
  a_directive : Directive → Symbol
  -- a token that no rule of the grammar has
  another : Symbol

-- Which token a rule of the grammar asks for (profile).
pub data Class : Type 0 where
  no_token : Class
  the_mark : Mark → Class
  the_word : Word → Class
  any_name : Class
  any_number : Class
  the_cast : Class
  any_text : Class
  the_print : Class
  the_finish : Class
  the_dump : Class
  the_time : Class
  the_directive : Class
  any_other : Class

-- the class of a symbol
abbrev pub class_of : Symbol → Class
class_of (a_mark x) = the_mark x
class_of (a_word w) = the_word w
class_of (a_name bytes) = any_name
class_of (a_number l) = any_number
class_of (a_cast s) = the_cast
class_of (a_text bytes) = any_text
class_of (a_print x) = the_print
class_of a_finish = the_finish
class_of (a_dump x) = the_dump
class_of a_time = the_time
class_of (a_directive x) = the_directive
class_of another = any_other

-- whether two classes are equal
abbrev pub same_class : Class → Class → Bool
same_class no_token no_token = true
same_class (the_mark x) (the_mark y) = sameb marks.the_type x y
same_class (the_word v) (the_word w) = sameb words.the_type v w
same_class any_name any_name = true
same_class any_number any_number = true
same_class the_cast the_cast = true
same_class any_text any_text = true
same_class the_print the_print = true
same_class the_finish the_finish = true
same_class the_dump the_dump = true
same_class the_time the_time = true
same_class the_directive the_directive = true
same_class any_other any_other = true
same_class _ _ = false

-- the class of the first symbol
abbrev pub first : List Symbol → Class
first [] = no_token
first (x ∷ xs) = class_of x

-- the mark that an operator is written by: `^~` is another spelling of `~^` (clause 5.1.10)
abbrev pub spelled : Mark → Mark
spelled m.XorNot = m.Xnor
spelled x = x

-- the system names of the grammar, each with its symbol (clauses 5.5, 17.1, 17.4.1, 17.7.1 and 18.1)
abbrev pub system_names : List (List ℕ × Symbol)
system_names = (codes "$signed", a_cast true)
    ∷ (codes "$unsigned", a_cast false)
    ∷ (codes "$display", a_print Display)
    ∷ (codes "$strobe", a_print Strobe)
    ∷ (codes "$finish", a_finish)
    ∷ (codes "$dumpfile", a_dump File)
    ∷ (codes "$dumpvars", a_dump Vars)
    ∷ (codes "$time", a_time)
    ∷ []

-- the symbol of a system name, if it is one of these
abbrev pub symbol_named : List (List ℕ × Symbol) → List ℕ → Symbol
symbol_named [] bytes = another
symbol_named (x ∷ xs) bytes = if bytes_eq x.0 bytes then x.1 else symbol_named xs bytes

-- the symbol of a system name
abbrev pub system_symbol : List ℕ → Symbol
system_symbol bytes = symbol_named system_names bytes

-- the symbol of a token of a kind that is these bytes of the source
abbrev pub symbol_of : Kind → List ℕ → Symbol
symbol_of (k.Mark x) bytes = a_mark (spelled x)
symbol_of (k.Word w) bytes = a_word w
symbol_of k.Name bytes = a_name (name_of bytes)
symbol_of (k.Number l) bytes = a_number l
symbol_of k.System bytes = system_symbol bytes
symbol_of k.Text bytes = a_text (text_value bytes)
symbol_of (k.Directive x) bytes = a_directive x
symbol_of _ bytes = another

-- the symbol of a token
abbrev pub symbol : Lexeme → Symbol
symbol x = symbol_of x.kind x.bytes

-- the symbols of tokens
abbrev pub symbols : List Lexeme → List Symbol
symbols xs = map symbol xs
