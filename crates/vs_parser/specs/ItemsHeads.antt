-- How items begin.
use Rattle.std.specs.Prelude.{◌≡◌, List, ◌∷◌}
use Rattle.vs_syntax.specs.vs_lexer.specs.declared.token.Word.{Word}
use Rattle.vs_syntax.specs.vs_lexer.specs.declared.token.Word.TheVariants as w
use Rattle.vs_syntax.specs.Symbols.{Symbol, a_word, a_name}
use Rattle.vs_syntax.specs.Grammar.{Grammar, ◌·◌, part, many, word, form, comma_list, instances, parameter_form, generate_loop, generate_branches, guarded, a_constant, a_net, a_bare_name, a_variable, an_assignment, an_item, a_stmt}
use Rattle.vs_syntax.specs.Views.{direction_word}
use Rattle.vs_parser.specs.Ports.{after_direction}
use Rattle.vs_parser.specs.declared.items_head.ItemHead.{ItemHead}
use Rattle.vs_parser.specs.declared.items_head.ItemHead.TheVariants as i
use Rattle.vs_parser.specs.declared.items_head.PlainHead.{PlainHead}
use Rattle.vs_parser.specs.declared.items_head.PlainHead.TheVariants as p
use Rattle.vs_parser.specs.declared.items_head.GenerateWord.{GenerateWord}
use Rattle.vs_parser.specs.declared.items_head.GenerateWord.TheVariants as g
use Rattle.vs_parser.specs.declared.items_head.DeclarationWord.{DeclarationWord}
use Rattle.vs_parser.specs.declared.items_head.DeclarationWord.TheVariants as d

-- the word of a declaration
abbrev pub word_of : DeclarationWord → Word
word_of (d.Port x) = direction_word x
word_of d.Genvar = w.Genvar
word_of d.Wire = w.Wire
word_of d.Reg = w.Reg
word_of d.Integer = w.Integer
word_of d.Parameter = w.Parameter
word_of d.Localparam = w.Localparam

-- the word of a generate construct
abbrev pub generate_word : GenerateWord → Word
generate_word g.Region = w.Generate
generate_word g.For = w.For
generate_word g.If = w.If

-- the first symbol of an item that is no generate construct and begins so
abbrev pub plain_symbol : PlainHead → Symbol
plain_symbol (p.Name bytes) = a_name bytes.now
plain_symbol (p.Declaration d) = a_word (word_of d)
plain_symbol p.Assign = a_word w.Assign
plain_symbol p.Initial = a_word w.Initial
plain_symbol p.Always = a_word w.Always

-- the first symbol of an item that begins so
abbrev pub symbol_of : ItemHead → Symbol
symbol_of (i.Plain k) = plain_symbol k
symbol_of (i.Generate k) = a_word (generate_word k)

-- the symbols begin an item so, and these stand behind the first one
abbrev pub BeginsItem : List Symbol → ItemHead → List Symbol → Type 0
BeginsItem ts k after = ts ≡ symbol_of k ∷ after

-- what stands behind the word of a declaration
abbrev pub declaration_of : DeclarationWord → Grammar
declaration_of (d.Port x) = after_direction
declaration_of d.Genvar = comma_list a_bare_name
declaration_of d.Wire = form · comma_list a_net
declaration_of d.Reg = form · comma_list a_variable
declaration_of d.Integer = comma_list a_variable
declaration_of d.Parameter = parameter_form · comma_list a_constant
declaration_of d.Localparam = parameter_form · comma_list a_constant

-- what stands behind the word of a generate construct
abbrev pub construct_of : GenerateWord → Grammar
construct_of g.Region = many (part an_item) · word w.Endgenerate
construct_of g.For = generate_loop
construct_of g.If = guarded generate_branches

-- what stands behind the first symbol of an item that is no generate construct and begins so
abbrev pub plain_body : PlainHead → Grammar
plain_body (p.Name bytes) = instances
plain_body (p.Declaration d) = declaration_of d
plain_body p.Assign = comma_list an_assignment
plain_body p.Initial = part a_stmt
plain_body p.Always = part a_stmt

-- what stands behind the first symbol of an item that begins so
abbrev pub body_of : ItemHead → Grammar
body_of (i.Plain k) = plain_body k
body_of (i.Generate k) = construct_of k
