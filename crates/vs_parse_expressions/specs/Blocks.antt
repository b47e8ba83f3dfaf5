-- What stands behind the `begin` of a block.
use Rattle.std.specs.Prelude.{List, map, Option, None, Some}
use Rattle.std.specs.declared.vec.Vec.{Vec}
use Rattle.std.specs.declared.alloc.Global.{Global}
use Rattle.vs_syntax.specs.vs_lexer.specs.declared.token.Mark.TheVariants as m
use Rattle.vs_syntax.specs.vs_lexer.specs.declared.token.Word.{Word}
use Rattle.vs_syntax.specs.vs_lexer.specs.declared.token.Word.TheVariants as w
use Rattle.vs_syntax.specs.Derivation.{Tree, empty, both}
use Rattle.vs_syntax.specs.Views.{row_of, name_tree, local_declaration_tree}
use Rattle.vs_parse_expressions.specs.declared.local.LocalWord.{LocalWord}
use Rattle.vs_parse_expressions.specs.declared.local.LocalWord.TheVariants as l
use Rattle.vs_parse_expressions.specs.declared.local.BlockName.{BlockName}
use Rattle.vs_parse_expressions.specs.Parts.{marked}

-- the word that a declaration in a block begins with
abbrev pub local_word : LocalWord → Word
local_word l.Reg = w.Reg
local_word l.Integer = w.Integer

-- the name of a block, and its declarations
abbrev pub named_tree : BlockName → Tree
named_tree x = both (name_tree x.name.items) (row_of (map local_declaration_tree x.locals.items))

-- the same behind the colon, where it is there
abbrev pub naming_tree : Option BlockName → Tree
naming_tree None = empty
naming_tree (Some x) = marked m.Colon (named_tree x)
