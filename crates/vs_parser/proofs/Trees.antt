-- The tree of each item of a module.
use Rattle.std.specs.Prelude.{◌≡◌, Option, None, Some, map, refl}
use Rattle.std.proofs.Common.{ap, sym, ◌∙◌}
use Rattle.std.specs.declared.boxed.Box.{Box}
use Rattle.std.specs.declared.alloc.Global.{Global}
use Rattle.vs_syntax.specs.vs_lexer.specs.declared.token.Mark.TheVariants as m
use Rattle.vs_syntax.specs.vs_lexer.specs.declared.token.Word.TheVariants as w
use Rattle.vs_syntax.specs.Symbols.{a_mark, a_word}
use Rattle.vs_syntax.specs.Derivation.{Tree, leaf, both}
use Rattle.vs_syntax.specs.Views.{row_of, expr_tree, guarded_tree, else_tree, item_tree, loop_tree, block_name_tree, module_item_step, module_item_tree}
use Rattle.vs_syntax.specs.declared.tree.ModuleItem.{ModuleItem, fold-roll-ModuleItem}
use Rattle.vs_syntax.specs.declared.tree.ModuleItem.TheShapes.{former-ModuleItem-If-2-at-2}
use Rattle.vs_syntax.specs.declared.tree.ModuleItem.TheVariants as v
use Rattle.vs_syntax.specs.declared.tree.ModuleItem.TheVariants.{rolls-Plain, rolls-Region, rolls-For, rolls-If, rolls-Null, rolls-Block}
use Rattle.vs_parser.specs.vs_parse_expressions.specs.Parts.{headed}
use Rattle.vs_parser.specs.Generated.{boxed_item_tree, other_item_tree, begun}

pub tree_Plain : (x : _) → module_item_tree (v.Plain x) ≡ item_tree x
tree_Plain x = ap module_item_tree (sym (rolls-Plain x)) ∙ fold-roll-ModuleItem Tree module_item_step _

pub tree_Region : (xs : _) → module_item_tree (v.Region xs) ≡ headed (a_word w.Generate) (both (row_of (map module_item_tree xs.items)) (leaf (a_word w.Endgenerate)))
tree_Region xs = ap module_item_tree (sym (rolls-Region xs)) ∙ fold-roll-ModuleItem Tree module_item_step _

pub tree_For : (h x : _) → module_item_tree (v.For h x) ≡ headed (a_word w.For) (loop_tree h (boxed_item_tree x))
tree_For h x = ap module_item_tree (sym (rolls-For h x)) ∙ fold-roll-ModuleItem Tree module_item_step _

-- what stands behind `else`
other_is : (o : Option (Box ModuleItem Global)) → else_tree (former-ModuleItem-If-2-at-2.map ModuleItem Tree module_item_tree o) ≡ other_item_tree o
other_is None = refl
other_is (Some x) = refl

pub tree_If : (c x o : _) → module_item_tree (v.If c x o) ≡ headed (a_word w.If) (guarded_tree (expr_tree c) (both (boxed_item_tree x) (other_item_tree o)))
tree_If c x o =
    ap module_item_tree (sym (rolls-If c x o)) ∙ fold-roll-ModuleItem Tree module_item_step _
    ∙ ap (λ u. headed (a_word w.If) (guarded_tree (expr_tree c) (both (boxed_item_tree x) u))) (other_is o)

pub tree_Null : module_item_tree v.Null ≡ leaf (a_mark m.Semicolon)
tree_Null = ap module_item_tree (sym rolls-Null) ∙ fold-roll-ModuleItem Tree module_item_step _

pub tree_Block : (n xs : _) → module_item_tree (v.Block n xs) ≡ begun (both (block_name_tree n) (both (row_of (map module_item_tree xs.items)) (leaf (a_word w.End))))
tree_Block n xs = ap module_item_tree (sym (rolls-Block n xs)) ∙ fold-roll-ModuleItem Tree module_item_step _
