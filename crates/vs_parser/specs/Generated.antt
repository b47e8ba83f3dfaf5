-- Parts of generate constructs that were read.
use Rattle.std.specs.Prelude.{Option, None, Some}
use Rattle.std.specs.declared.boxed.Box.{Box}
use Rattle.std.specs.declared.alloc.Global.{Global}
use Rattle.vs_syntax.specs.vs_lexer.specs.declared.token.Word.TheVariants as w
use Rattle.vs_syntax.specs.Symbols.{a_word}
use Rattle.vs_syntax.specs.Grammar.{Grammar, ◌·◌, many, part, word, block_name, an_item}
use Rattle.vs_syntax.specs.Derivation.{Tree, empty, leaf, both}
use Rattle.vs_syntax.specs.Views.{module_item_tree}
use Rattle.vs_syntax.specs.declared.tree.ModuleItem.{ModuleItem}

-- what a construct generates, in a box
abbrev pub boxed_item_tree : Box ModuleItem Global → Tree
boxed_item_tree x = module_item_tree x.value

-- what stands behind `else`, where it is there
abbrev pub other_item_tree : Option (Box ModuleItem Global) → Tree
other_item_tree None = empty
other_item_tree (Some x) = both (leaf (a_word w.Else)) (boxed_item_tree x)

-- a block behind its first word
abbrev pub begun : Tree → Tree
begun x = both (leaf (a_word w.Begin)) x

-- what stands behind the `begin` of a block
abbrev pub block_rest : Grammar
block_rest = block_name · many (part an_item) · word w.End
