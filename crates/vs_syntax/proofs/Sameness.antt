-- Syntax trees of one tree of the grammar say the same.
use Rattle.std.specs.Prelude.{true, false, ◌≡◌, ℕ, Bool, List, [], ◌∷◌, Option, None, Some, map, refl}
use Rattle.std.proofs.Common.{sym, ◌∙◌, ap, subst}
use Rattle.std.proofs.lemmas.Bool.{eqb-false}
use Rattle.std.specs.declared.boxed.Box.{Box}
use Rattle.std.specs.declared.alloc.Global.{Global}
use Rattle.vs_logic4.specs.declared.operators.Unary.{Unary}
use Rattle.vs_logic4.specs.declared.operators.Unary.TheVariants as u
use Rattle.vs_logic4.specs.declared.operators.Binary.{Binary}
use Rattle.vs_logic4.specs.declared.operators.Binary.TheVariants as b
use Rattle.vs_lexer.specs.declared.token.Literal.{Literal}
use Rattle.vs_lexer.specs.declared.token.Mark.{Mark}
use Rattle.vs_lexer.specs.declared.token.Mark.TheVariants as m
use Rattle.vs_syntax.specs.declared.tree.PartSelect.{PartSelect}
use Rattle.vs_syntax.specs.declared.tree.PartSelect.TheVariants as p
use Rattle.vs_syntax.specs.declared.tree.Expr.{Expr, Expr-F, roll-Expr, out-Expr, roll-out-Expr, ind-Expr, map-Expr, fold-roll-Expr}
use Rattle.vs_syntax.specs.declared.tree.Expr.TheOpen as f
use Rattle.vs_syntax.specs.declared.tree.Expr.TheShapes.{former-Expr-Select-1-at-4, former-Expr-Select-1-at-5}
use Rattle.vs_syntax.specs.declared.tree.Expr.TheVariants as e
use Rattle.vs_syntax.specs.declared.tree.Expr.TheVariants.{rolls-Number, rolls-Name, rolls-Select, rolls-Group, rolls-Unary, rolls-Chain, rolls-Choice, rolls-Concat, rolls-Repeat, rolls-Cast}
use Rattle.vs_lexer.specs.declared.token.Word.{Word}
use Rattle.vs_syntax.specs.Symbols.{Symbol, a_mark, a_word, a_name, a_number, a_cast}
use Rattle.vs_syntax.proofs.Fronts.{clash}
use Rattle.vs_syntax.specs.Derivation.{Tree, empty, leaf, both, down}
use Rattle.vs_syntax.specs.Views.{row_of, unary_mark, binary_mark, part_mark, commas_tree, link_tree, head_of, arms_of, choice_tree, second_tree, select_tree, some_tree, expr_step, expr_tree}
use Rattle.vs_syntax.specs.Same.{SameExpr, same_number, same_name, same_select, same_group, same_unary, same_chain, same_choice, same_concat, same_repeat, same_cast, SameSelects, same_no_select, same_more_selects, SameSecond, same_no_second, same_second, SameLinks, same_no_link, same_link, SamePairs, same_no_pair, same_pair, SameExprs, same_no_expr, same_more_exprs}

-- an operator by its mark
abbrev unary_at : Mark → Unary
unary_at m.Plus = u.Plus
unary_at m.Minus = u.Minus
unary_at m.Not = u.LogicalNot
unary_at m.And = u.ReduceAnd
unary_at m.Nand = u.ReduceNand
unary_at m.Or = u.ReduceOr
unary_at m.Nor = u.ReduceNor
unary_at m.Xor = u.ReduceXor
unary_at m.Xnor = u.ReduceXnor
unary_at _ = u.Not

unary_back : (op : Unary) → unary_at (unary_mark op) ≡ op
unary_back u.Not = refl
unary_back _ = refl

unary_by : (op op' : Unary) → unary_mark op ≡ unary_mark op' → op ≡ op'
unary_by op op' h = sym (unary_back op) ∙ ap unary_at h ∙ unary_back op'

abbrev binary_at : Mark → Binary
binary_at m.Star = b.Multiply
binary_at m.Slash = b.Divide
binary_at m.Percent = b.Remainder
binary_at m.Plus = b.Add
binary_at m.Minus = b.Subtract
binary_at m.ShiftLeft = b.ShiftLeft
binary_at m.ShiftRight = b.ShiftRight
binary_at m.ArithmeticShiftLeft = b.SignedShiftLeft
binary_at m.ArithmeticShiftRight = b.SignedShiftRight
binary_at m.Less = b.Less
binary_at m.LessEqual = b.LessEqual
binary_at m.Greater = b.Greater
binary_at m.GreaterEqual = b.GreaterEqual
binary_at m.Equal = b.Equal
binary_at m.NotEqual = b.NotEqual
binary_at m.CaseEqual = b.CaseEqual
binary_at m.CaseNotEqual = b.CaseNotEqual
binary_at m.And = b.And
binary_at m.Xor = b.Xor
binary_at m.Xnor = b.Xnor
binary_at m.LogicalAnd = b.LogicalAnd
binary_at m.LogicalOr = b.LogicalOr
binary_at _ = b.Or

binary_back : (op : Binary) → binary_at (binary_mark op) ≡ op
binary_back b.Or = refl
binary_back _ = refl

binary_by : (op op' : Binary) → binary_mark op ≡ binary_mark op' → op ≡ op'
binary_by op op' h = sym (binary_back op) ∙ ap binary_at h ∙ binary_back op'

abbrev part_at : Mark → PartSelect
part_at m.Colon = p.Bounds
part_at m.PlusColon = p.Upward
part_at _ = p.Downward

part_back : (k : PartSelect) → part_at (part_mark k) ≡ k
part_back p.Downward = refl
part_back _ = refl

pub part_by : (k k' : PartSelect) → part_mark k ≡ part_mark k' → k ≡ k'
part_by k k' h = sym (part_back k) ∙ ap part_at h ∙ part_back k'

-- an expression of which the other one of its tree says the same
abbrev Settled : Expr → Type 0
Settled x = (x' : Expr) → expr_tree x ≡ expr_tree x' → SameExpr x x'

abbrev Inner : Type 0
Inner = (x : Expr) × Settled x

-- one layer of an expression as a tree
abbrev layer : Expr-F Expr → Tree
layer x = expr_step (map-Expr Expr Tree expr_tree x)

-- one layer without what is settled of the inner ones
abbrev bare : Expr-F Inner → Expr-F Expr
bare y = map-Expr Inner Expr (λ p. p.0) y

opened : (x : Expr) → expr_tree x ≡ layer (out-Expr x)
opened x = ap expr_tree (sym (roll-out-Expr x)) ∙ fold-roll-Expr Tree expr_step (out-Expr x)

-- operands with their operators
abbrev linked : List (Binary × Expr) → List (Binary × Tree)
linked ls = map (λ l. (l.0, expr_tree l.1)) ls

-- a number for each form of an expression
abbrev form : Expr-F Expr → ℕ
form (f.Number l) = 0
form (f.Name n) = 1
form (f.Group x) = 2
form (f.Unary op x) = 3
form (f.Chain x ls) = 4
form (f.Choice ps x) = 5
form (f.Concat x xs) = 6
form (f.Repeat n x xs) = 7
form (f.Cast s x) = 8
form (f.Select n ss) = 9

-- the same of a tree: behind a brace, behind a mark, behind an operand
abbrev form_in_braces : Tree → ℕ
form_in_braces (both x (both y (both z w))) = 7
form_in_braces _ = 6

abbrev form_behind : Mark → Tree → ℕ
form_behind m.Open x = 2
form_behind m.OpenBrace x = form_in_braces x
form_behind _ x = 3

abbrev form_of_row : Tree → ℕ
form_of_row (both (both (leaf (a_mark m.Question)) x) y) = 5
form_of_row (both (both (leaf (a_mark m.OpenBracket)) x) y) = 9
form_of_row (down x) = 9
form_of_row _ = 4

abbrev form_of_tree : Tree → ℕ
form_of_tree (leaf (a_number l)) = 0
form_of_tree (down (both (leaf (a_mark k)) x)) = form_behind k x
form_of_tree (down (both (leaf (a_cast s)) x)) = 8
form_of_tree (down (both x y)) = form_of_row y
form_of_tree (both x y) = 5
form_of_tree _ = 1

unary_form : (op : Unary) (x : Tree) → form_of_tree (down (both (leaf (a_mark (unary_mark op))) x)) ≡ 3
unary_form u.Not x = refl
unary_form _ x = refl

link_form : (op : Binary) (x y : Tree) → form_of_row (both (both (leaf (a_mark (binary_mark op))) x) y) ≡ 4
link_form b.Or x y = refl
link_form _ x y = refl

links_form : (ls : List (Binary × Tree)) → form_of_row (row_of (map link_tree ls)) ≡ 4
links_form [] = refl
links_form (l ∷ ls) = link_form l.0 l.1 (row_of (map link_tree ls))

-- the expressions of selects as trees
abbrev second_trees : Option (PartSelect × Expr) → Option (PartSelect × Tree)
second_trees o = former-Expr-Select-1-at-4.map Expr Tree expr_tree o

abbrev select_trees : List (Expr × Option (PartSelect × Expr)) → List (Tree × Option (PartSelect × Tree))
select_trees xs = map (λ x. former-Expr-Select-1-at-5.map Expr Tree expr_tree x) xs

selects_form : (xs : List (Tree × Option (PartSelect × Tree))) → form_of_row (some_tree (map select_tree xs)) ≡ 9
selects_form [] = refl
selects_form (x ∷ xs) = refl

-- operands behind an expression
after_choice : (ps : List (Tree × Tree)) (x y : Tree) → form_of_tree (down (both (choice_tree ps x) y)) ≡ form_of_row y
after_choice [] x y = refl
after_choice (p ∷ ps) x y = refl

behind_layer : (x : Expr-F Expr) (y : Tree) → form_of_tree (down (both (layer x) y)) ≡ form_of_row y
behind_layer (f.Choice ps x) y = after_choice (map (λ p. (expr_tree p.0, expr_tree p.1)) ps.items) (expr_tree x.value) y
behind_layer (f.Number l) y = refl
behind_layer _ y = refl

behind : (x : Expr) (y : Tree) → form_of_tree (down (both (expr_tree x) y)) ≡ form_of_row y
behind x y = ap (λ u. form_of_tree (down (both u y))) (opened x) ∙ behind_layer (out-Expr x) y

-- conditions, each with the operand for it
abbrev paired : List (Expr × Expr) → List (Tree × Tree)
paired ps = map (λ p. (expr_tree p.0, expr_tree p.1)) ps

choice_form : (ps : List (Expr × Expr)) (x : Tree) → form_of_tree (choice_tree (paired ps) x) ≡ 5
choice_form [] x = refl
choice_form (p ∷ ps) x = behind p.0 (row_of (arms_of (paired (p ∷ ps)) x))

form_of : (x : Expr-F Expr) → form_of_tree (layer x) ≡ form x
form_of (f.Number l) = refl
form_of (f.Name n) = refl
form_of (f.Group x) = refl
form_of (f.Unary op x) = unary_form op (expr_tree x.value)
form_of (f.Chain x ls) = behind x.value (row_of (map link_tree (linked ls.items))) ∙ links_form (linked ls.items)
form_of (f.Choice ps x) = choice_form ps.items (expr_tree x.value)
form_of (f.Concat x xs) = refl
form_of (f.Repeat n x xs) = refl
form_of (f.Cast s x) = refl
form_of (f.Select n ss) = selects_form (select_trees ss.items)

-- layers of one tree have one form
one_form : (x x' : Expr-F Expr) → layer x ≡ layer x' → form x ≡ form x'
one_form x x' h = sym (form_of x) ∙ ap form_of_tree h ∙ form_of x'

-- the parts of one tree
pub two : (x x' y y' : Tree) → both x y ≡ both x' y' → (x ≡ x') × (y ≡ y')
two x x' y y' h = (cc, cc)

below : (x x' y y' : Tree) → down (both x y) ≡ down (both x' y') → (x ≡ x') × (y ≡ y')
below x x' y y' h = (cc, cc)

marks : (k k' : Mark) → leaf (a_mark k) ≡ leaf (a_mark k') → k ≡ k'
marks k k' h = cc

casts : (s s' : Bool) → leaf (a_cast s) ≡ leaf (a_cast s') → s ≡ s'
casts s s' h = cc

-- operands with their operators, without what is settled of them
abbrev bare_links : List (Binary × Inner) → List (Binary × Expr)
bare_links ls = map (λ l. (l.0, l.1.0)) ls

same_rows : (ls : List (Binary × Inner)) (ls' : List (Binary × Expr)) → row_of (map link_tree (linked (bare_links ls))) ≡ row_of (map link_tree (linked ls')) → SameLinks (bare_links ls) ls'
same_rows [] [] h = same_no_link
same_rows [] (l' ∷ ls') h = cc
same_rows (l ∷ ls) [] h = cc
same_rows (l ∷ ls) (l' ∷ ls') h =
    let p = two _ _ _ _ h in
    let q = two _ _ _ _ p.0 in
    same_link _ l' _ ls' (binary_by l.0 l'.0 (marks _ _ q.0)) (l.1.1 l'.1 q.1) (same_rows ls ls' p.1)

-- conditions with their operands, and the last operand
abbrev bare_pairs : List (Inner × Inner) → List (Expr × Expr)
bare_pairs ps = map (λ p. (p.0.0, p.1.0)) ps

same_arms : (ps : List (Inner × Inner)) (ps' : List (Expr × Expr)) (x : Inner) (x' : Expr) → head_of (paired (bare_pairs ps)) (expr_tree x.0) ≡ head_of (paired ps') (expr_tree x') → row_of (arms_of (paired (bare_pairs ps)) (expr_tree x.0)) ≡ row_of (arms_of (paired ps') (expr_tree x')) → SamePairs (bare_pairs ps) ps' × SameExpr x.0 x'
same_arms [] [] x x' h k = (same_no_pair, x.1 x' h)
same_arms [] (p' ∷ ps') x x' h k = cc
same_arms (p ∷ ps) [] x x' h k = cc
same_arms (p ∷ ps) (p' ∷ ps') x x' h k =
    let r = same_arms ps ps' x x' (cc) (cc) in
    (same_pair _ p' _ ps' (p.0.1 p'.0 h) (p.1.1 p'.1 (cc)) r.0, r.1)

same_choices : (ps : List (Inner × Inner)) (ps' : List (Expr × Expr)) (x : Inner) (x' : Expr) → choice_tree (paired (bare_pairs ps)) (expr_tree x.0) ≡ choice_tree (paired ps') (expr_tree x') → SamePairs (bare_pairs ps) ps' × SameExpr x.0 x'
same_choices [] [] x x' h = (same_no_pair, x.1 x' (cc))
same_choices [] (p' ∷ ps') x x' h = cc
same_choices (p ∷ ps) [] x x' h = cc
same_choices (p ∷ ps) (p' ∷ ps') x x' h = same_arms (p ∷ ps) (p' ∷ ps') x x' (cc) (cc)

-- expressions one after another
abbrev bare_all : List Inner → List Expr
bare_all xs = map (λ x. x.0) xs

same_commas : (xs : List Inner) (xs' : List Expr) → commas_tree (map expr_tree (bare_all xs)) ≡ commas_tree (map expr_tree xs') → SameExprs (bare_all xs) xs'
same_commas [] [] h = same_no_expr
same_commas [] (x' ∷ xs') h = cc
same_commas (x ∷ xs) [] h = cc
same_commas (x ∷ xs) (x' ∷ xs') h =
    let p = two _ _ _ _ h in
    same_more_exprs _ x' _ xs' (x.1 x' (two _ _ _ _ p.0).1) (same_commas xs xs' p.1)

-- selects, without what is settled of their expressions
abbrev bare_second : Option (PartSelect × Inner) → Option (PartSelect × Expr)
bare_second o = former-Expr-Select-1-at-4.map Inner Expr (λ p. p.0) o

abbrev bare_selects : List (Inner × Option (PartSelect × Inner)) → List (Expr × Option (PartSelect × Expr))
bare_selects xs = map (λ x. former-Expr-Select-1-at-5.map Inner Expr (λ p. p.0) x) xs

same_seconds : (o : Option (PartSelect × Inner)) (o' : Option (PartSelect × Expr)) → second_tree (second_trees (bare_second o)) ≡ second_tree (second_trees o') → SameSecond (bare_second o) o'
same_seconds None None h = same_no_second
same_seconds None (Some x') h = cc
same_seconds (Some x) None h = cc
same_seconds (Some x) (Some x') h =
    let p = two _ _ _ _ h in
    same_second _ x' (part_by x.0 x'.0 (marks _ _ p.0)) (x.1.1 x'.1 p.1)

same_select_rows : (xs : List (Inner × Option (PartSelect × Inner))) (xs' : List (Expr × Option (PartSelect × Expr))) → row_of (map select_tree (select_trees (bare_selects xs))) ≡ row_of (map select_tree (select_trees xs')) → SameSelects (bare_selects xs) xs'
same_select_rows [] [] h = same_no_select
same_select_rows [] (x' ∷ xs') h = cc
same_select_rows (x ∷ xs) [] h = cc
same_select_rows (x ∷ xs) (x' ∷ xs') h =
    let p = two _ _ _ _ h in
    let q = two _ _ _ _ (two _ _ _ _ p.0).1 in
    same_more_selects _ x' _ xs' (x.0.1 x'.0 q.0) (same_seconds x.1 x'.1 (two _ _ _ _ q.1).0) (same_select_rows xs xs' p.1)

same_selected : (xs : List (Inner × Option (PartSelect × Inner))) (xs' : List (Expr × Option (PartSelect × Expr))) → some_tree (map select_tree (select_trees (bare_selects xs))) ≡ some_tree (map select_tree (select_trees xs')) → SameSelects (bare_selects xs) xs'
same_selected [] [] h = same_no_select
same_selected [] (x' ∷ xs') h = cc
same_selected (x ∷ xs) [] h = cc
same_selected (x ∷ xs) (x' ∷ xs') h = same_select_rows (x ∷ xs) (x' ∷ xs') h

same_unaries : (op op' : Unary) (x x' : Box Expr Global) → op ≡ op' → SameExpr x.value x'.value → SameExpr (e.Unary op x) (e.Unary op' x')
same_unaries op op' x x' h s = subst (λ (o : Unary). SameExpr (e.Unary op x) (e.Unary o x')) h (same_unary op x x' s)

same_numbers : (l l' : Literal) → l ≡ l' → SameExpr (e.Number l) (e.Number l')
same_numbers l l' h = subst (λ (k : Literal). SameExpr (e.Number l) (e.Number k)) h (same_number l)

same_casts : (s s' : Bool) (x x' : Box Expr Global) → s ≡ s' → SameExpr x.value x'.value → SameExpr (e.Cast s x) (e.Cast s' x')
same_casts s s' x x' h p = subst (λ (b : Bool). SameExpr (e.Cast s x) (e.Cast b x')) h (same_cast s x x' p)

-- one layer each
same_layers : (y : Expr-F Inner) (x' : Expr-F Expr) → layer (bare y) ≡ layer x' → SameExpr (roll-Expr (bare y)) (roll-Expr x')
same_layers (f.Number l) (f.Number l') h = rw (rolls-Number l, rolls-Number l') (same_numbers l l' (cc))
same_layers (f.Name n) (f.Name n') h = rw (rolls-Name n, rolls-Name n') (same_name n n' (cc))
same_layers (f.Select n ss) (f.Select n' ss') h =
    let p = below _ _ _ _ h in
    let n-is : n.items ≡ n'.items = let e = p.0 in cc in
    rw (rolls-Select _ _, rolls-Select n' ss') (same_select n n' _ ss' n-is (same_selected ss.items ss'.items p.1))
same_layers (f.Group x) (f.Group x') h = rw (rolls-Group _, rolls-Group x') (same_group _ x' (x.value.1 x'.value (two _ _ _ _ (below _ _ _ _ h).1).0))
same_layers (f.Unary op x) (f.Unary op' x') h =
    let p = below _ _ _ _ h in
    rw (rolls-Unary op _, rolls-Unary op' x') (same_unaries op op' _ x' (unary_by op op' (marks _ _ p.0)) (x.value.1 x'.value p.1))
same_layers (f.Chain x ls) (f.Chain x' ls') h =
    let p = below _ _ _ _ h in
    rw (rolls-Chain _ _, rolls-Chain x' ls') (same_chain _ x' _ ls' (x.value.1 x'.value p.0) (same_rows ls.items ls'.items p.1))
same_layers (f.Choice ps x) (f.Choice ps' x') h =
    let r = same_choices ps.items ps'.items x.value x'.value h in
    rw (rolls-Choice _ _, rolls-Choice ps' x') (same_choice _ ps' _ x' r.0 r.1)
same_layers (f.Concat x xs) (f.Concat x' xs') h =
    let p = two _ _ _ _ (below _ _ _ _ h).1 in
    rw (rolls-Concat _ _, rolls-Concat x' xs') (same_concat _ x' _ xs' (x.value.1 x'.value p.0) (same_commas xs.items xs'.items (two _ _ _ _ p.1).0))
same_layers (f.Repeat n x xs) (f.Repeat n' x' xs') h =
    let p = two _ _ _ _ (below _ _ _ _ h).1 in
    let q = two _ _ _ _ (two _ _ _ _ p.1).1 in
    rw (rolls-Repeat _ _ _, rolls-Repeat n' x' xs')
    (same_repeat _ n' _ x' _ xs' (n.value.1 n'.value p.0) (x.value.1 x'.value q.0) (same_commas xs.items xs'.items (two _ _ _ _ (two _ _ _ _ q.1).0).0))
same_layers (f.Cast s x) (f.Cast s' x') h =
    let p = below _ _ _ _ h in
    rw (rolls-Cast s _, rolls-Cast s' x') (same_casts s s' _ x' (casts s s' p.0) (x.value.1 x'.value (two _ _ _ _ (two _ _ _ _ p.1).1).0))
same_layers y x' h = absurd (eqb-false (form (bare y)) (form x') refl (one_form (bare y) x' h))

settled : (x : Expr-F Expr) (y : Expr-F Inner) → bare y ≡ x → Settled (roll-Expr x)
settled x y is x' h =
    subst (λ (u : Expr). SameExpr (roll-Expr x) u) (roll-out-Expr x')
    (subst (λ (u : Expr-F Expr). SameExpr (roll-Expr u) (roll-Expr (out-Expr x'))) is
    (same_layers y (out-Expr x') (ap layer is ∙ sym (fold-roll-Expr Tree expr_step x) ∙ h ∙ opened x')))

-- Expressions of one tree say the same.
pub same_expr : (x x' : Expr) → expr_tree x ≡ expr_tree x' → SameExpr x x'
same_expr = ind-Expr Settled settled

choice_there : (ps : List (Tree × Tree)) (x : Tree) → choice_tree ps x ≡ empty → ⊥
choice_there [] x h = cc
choice_there (p ∷ ps) x h = cc

layer_there : (x : Expr-F Expr) → layer x ≡ empty → ⊥
layer_there (f.Choice ps x) h = choice_there (paired ps.items) (expr_tree x.value) h
layer_there _ h = cc

-- An expression has a tree that isn't empty.
pub expr_there : (x : Expr) → expr_tree x ≡ empty → ⊥
expr_there x h = layer_there (out-Expr x) (sym (opened x) ∙ h)

-- whether a symbol is a number or a name
abbrev pub is_alone : Symbol → Bool
is_alone (a_number l) = true
is_alone (a_name n) = true
is_alone _ = false

leaf_is : (s s' : Symbol) → leaf s ≡ leaf s' → is_alone s ≡ true → is_alone s' ≡ false → ⊥
leaf_is s s' h p q = let e : s ≡ s' = cc in clash p (ap is_alone e ∙ q)

choice_no_leaf : (ps : List (Tree × Tree)) (x : Tree) (s : Symbol) → choice_tree ps x ≡ leaf s → ⊥
choice_no_leaf [] x s h = cc
choice_no_leaf (p ∷ ps) x s h = cc

layer_no_leaf : (x : Expr-F Expr) (s : Symbol) → is_alone s ≡ false → layer x ≡ leaf s → ⊥
layer_no_leaf (f.Number l) s n h = leaf_is (a_number l) s h refl n
layer_no_leaf (f.Name y) s n h = leaf_is (a_name y.items) s h refl n
layer_no_leaf (f.Choice ps x) s n h = choice_no_leaf (paired ps.items) (expr_tree x.value) s h
layer_no_leaf _ s n h = cc

-- The tree of an expression is no token alone but a number or a name.
pub expr_no_leaf : (x : Expr) (s : Symbol) → is_alone s ≡ false → expr_tree x ≡ leaf s → ⊥
expr_no_leaf x s n h = layer_no_leaf (out-Expr x) s n (sym (opened x) ∙ h)

-- The tree of an expression is no reserved word.
pub expr_no_word : (x : Expr) (v : Word) → expr_tree x ≡ leaf (a_word v) → ⊥
expr_no_word x v h = expr_no_leaf x (a_word v) refl h

choice_alone : (ps : List (Tree × Tree)) (x y z u : Tree) → choice_tree ps x ≡ both y (both z u) → ⊥
choice_alone [] x y z u h = cc
choice_alone (p ∷ ps) x y z u h = cc

layer_alone : (x : Expr-F Expr) (y z u : Tree) → layer x ≡ both y (both z u) → ⊥
layer_alone (f.Choice ps x) y z u h = choice_alone (paired ps.items) (expr_tree x.value) y z u h
layer_alone _ y z u h = cc

-- The tree of an expression is none of several parts that follow one another.
pub expr_alone : (x : Expr) (y z u : Tree) → expr_tree x ≡ both y (both z u) → ⊥
expr_alone x y z u h = layer_alone (out-Expr x) y z u (sym (opened x) ∙ h)
