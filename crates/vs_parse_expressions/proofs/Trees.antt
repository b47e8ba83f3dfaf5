-- The tree of each expression.
use Rattle.std.specs.Prelude.{◌≡◌, List, [], ◌∷◌, Option, None, Some, map, refl}
use Rattle.std.proofs.Common.{ap, sym, ◌∙◌}
use Rattle.vs_syntax.specs.vs_lexer.specs.declared.token.Mark.TheVariants as m
use Rattle.vs_syntax.specs.Symbols.{a_mark, a_number, a_cast}
use Rattle.vs_syntax.specs.Derivation.{Tree, leaf, both, down}
use Rattle.vs_syntax.specs.Views.{row_of, name_tree, unary_mark, link_tree, choice_tree, others_tree, repeated_tree, closed_tree, select_tree, some_tree, chosen_tree, expr_step, expr_tree}
use Rattle.vs_syntax.specs.vs_logic4.specs.declared.operators.Binary.{Binary}
use Rattle.vs_syntax.specs.declared.tree.Expr.{Expr, fold-roll-Expr}
use Rattle.vs_syntax.specs.declared.tree.PartSelect.{PartSelect}
use Rattle.vs_syntax.specs.declared.tree.Expr.TheShapes.{former-Expr-Select-1-at-5}
use Rattle.vs_syntax.specs.declared.tree.Expr.TheVariants as e
use Rattle.vs_syntax.specs.declared.tree.Expr.TheVariants.{rolls-Number, rolls-Name, rolls-Select, rolls-Group, rolls-Unary, rolls-Chain, rolls-Choice, rolls-Concat, rolls-Repeat, rolls-Cast}

pub tree_Number : (l : _) → expr_tree (e.Number l) ≡ leaf (a_number l)
tree_Number l = ap expr_tree (sym (rolls-Number l)) ∙ fold-roll-Expr Tree expr_step _

pub tree_Name : (n : _) → expr_tree (e.Name n) ≡ name_tree n.items
tree_Name n = ap expr_tree (sym (rolls-Name n)) ∙ fold-roll-Expr Tree expr_step _

-- the expressions of selects as trees
mapped_one : (x : Expr) (o : Option (PartSelect × Expr)) → select_tree (former-Expr-Select-1-at-5.map Expr Tree expr_tree (x, o)) ≡ chosen_tree (x, o)
mapped_one x None = refl
mapped_one x (Some p) = refl

mapped : (xs : List (Expr × Option (PartSelect × Expr))) → map select_tree (map (λ x. former-Expr-Select-1-at-5.map Expr Tree expr_tree x) xs) ≡ map chosen_tree xs
mapped [] = refl
mapped (x ∷ xs) = rw (mapped_one x.0 x.1, mapped xs) refl

pub tree_Select : (n ss : _) → expr_tree (e.Select n ss) ≡ down (both (name_tree n.items) (some_tree (map chosen_tree ss.items)))
tree_Select n ss = ap expr_tree (sym (rolls-Select n ss)) ∙ fold-roll-Expr Tree expr_step _ ∙ ap (λ u. down (both (name_tree n.items) (some_tree u))) (mapped ss.items)

pub tree_Group : (x : _) → expr_tree (e.Group x) ≡ down (both (leaf (a_mark m.Open)) (closed_tree (expr_tree x.value)))
tree_Group x = ap expr_tree (sym (rolls-Group x)) ∙ fold-roll-Expr Tree expr_step _

pub tree_Unary : (op x : _) → expr_tree (e.Unary op x) ≡ down (both (leaf (a_mark (unary_mark op))) (expr_tree x.value))
tree_Unary op x = ap expr_tree (sym (rolls-Unary op x)) ∙ fold-roll-Expr Tree expr_step _

-- an operator and its operand as trees
abbrev pub linked : Binary × Expr → Binary × Tree
linked l = (l.0, expr_tree l.1)

pub tree_Chain : (x ls : _) → expr_tree (e.Chain x ls) ≡ down (both (expr_tree x.value) (row_of (map link_tree (map linked ls.items))))
tree_Chain x ls = ap expr_tree (sym (rolls-Chain x ls)) ∙ fold-roll-Expr Tree expr_step _

-- a condition and the operand for it as trees
abbrev pub paired : Expr × Expr → Tree × Tree
paired p = (expr_tree p.0, expr_tree p.1)

pub tree_Choice : (ps x : _) → expr_tree (e.Choice ps x) ≡ choice_tree (map paired ps.items) (expr_tree x.value)
tree_Choice ps x = ap expr_tree (sym (rolls-Choice ps x)) ∙ fold-roll-Expr Tree expr_step _

pub tree_Concat : (x xs : _) → expr_tree (e.Concat x xs) ≡ down (both (leaf (a_mark m.OpenBrace)) (both (expr_tree x.value) (others_tree (map expr_tree xs.items))))
tree_Concat x xs = ap expr_tree (sym (rolls-Concat x xs)) ∙ fold-roll-Expr Tree expr_step _

pub tree_Repeat : (n x xs : _) → expr_tree (e.Repeat n x xs) ≡ down (both (leaf (a_mark m.OpenBrace)) (both (expr_tree n.value) (both (leaf (a_mark m.OpenBrace)) (repeated_tree (expr_tree x.value) (map expr_tree xs.items)))))
tree_Repeat n x xs = ap expr_tree (sym (rolls-Repeat n x xs)) ∙ fold-roll-Expr Tree expr_step _

pub tree_Cast : (s x : _) → expr_tree (e.Cast s x) ≡ down (both (leaf (a_cast s)) (both (leaf (a_mark m.Open)) (closed_tree (expr_tree x.value))))
tree_Cast s x = ap expr_tree (sym (rolls-Cast s x)) ∙ fold-roll-Expr Tree expr_step _
