-- Left sides of one tree of the grammar say the same.
use Rattle.std.specs.Prelude.{◌≡◌, List, [], ◌∷◌, Option, None, Some, map, refl}
use Rattle.std.proofs.Common.{sym, ◌∙◌, ap, subst}
use Rattle.vs_syntax.specs.declared.tree.PartSelect.{PartSelect}
use Rattle.vs_syntax.specs.declared.tree.Expr.{Expr}
use Rattle.vs_syntax.specs.declared.tree.Left.{Left, Left-F, roll-Left, out-Left, roll-out-Left, ind-Left, map-Left, fold-roll-Left}
use Rattle.vs_syntax.specs.declared.tree.Left.TheOpen as f
use Rattle.vs_syntax.specs.declared.tree.Left.TheVariants.{rolls-Name, rolls-Concat}
use Rattle.vs_syntax.specs.Derivation.{Tree, down}
use Rattle.vs_syntax.specs.Views.{commas_tree, row_of, second_tree, second_trees, chosen_tree, left_step, left_tree}
use Rattle.vs_syntax.specs.Same.{SameSelects, same_no_select, same_more_selects, SameSecond, same_no_second, same_second, SameLeft, same_place, same_places, SameLefts, same_no_left, same_more_lefts}
use Rattle.vs_syntax.proofs.Sameness.{part_by, same_expr}

-- a left side of which the other one of its tree says the same
abbrev Settled : Left → Type 0
Settled x = (x' : Left) → left_tree x ≡ left_tree x' → SameLeft x x'

abbrev Inner : Type 0
Inner = (x : Left) × Settled x

-- one layer of a left side as a tree
abbrev layer : Left-F Left → Tree
layer x = left_step (map-Left Left Tree left_tree x)

-- one layer without what is settled of the inner ones
abbrev bare : Left-F Inner → Left-F Left
bare y = map-Left Inner Left (λ p. p.0) y

opened : (x : Left) → left_tree x ≡ layer (out-Left x)
opened x = ap left_tree (sym (roll-out-Left x)) ∙ fold-roll-Left Tree left_step (out-Left x)

same_seconds : (o o' : Option (PartSelect × Expr)) → second_tree (second_trees o) ≡ second_tree (second_trees o') → SameSecond o o'
same_seconds None None h = same_no_second
same_seconds None (Some x') h = cc
same_seconds (Some x) None h = cc
same_seconds (Some x) (Some x') h = same_second x x' (part_by x.0 x'.0 (cc)) (same_expr x.1 x'.1 (cc))

pub same_selects : (xs xs' : List (Expr × Option (PartSelect × Expr))) → row_of (map chosen_tree xs) ≡ row_of (map chosen_tree xs') → SameSelects xs xs'
same_selects [] [] h = same_no_select
same_selects [] (x' ∷ xs') h = cc
same_selects (x ∷ xs) [] h = cc
same_selects (x ∷ xs) (x' ∷ xs') h = same_more_selects x x' xs xs' (same_expr x.0 x'.0 (cc)) (same_seconds x.1 x'.1 (cc)) (same_selects xs xs' (cc))

same_commas : (xs : List Inner) (xs' : List Left) → commas_tree (map left_tree (map (λ p. p.0) xs)) ≡ commas_tree (map left_tree xs') → SameLefts (map (λ p. p.0) xs) xs'
same_commas [] [] h = same_no_left
same_commas [] (x' ∷ xs') h = cc
same_commas (x ∷ xs) [] h = cc
same_commas (x ∷ xs) (x' ∷ xs') h = same_more_lefts _ x' _ xs' (x.1 x' (cc)) (same_commas xs xs' (cc))

-- one layer each
same_layers : (y : Left-F Inner) (x' : Left-F Left) → layer (bare y) ≡ layer x' → SameLeft (roll-Left (bare y)) (roll-Left x')
same_layers (f.Name n ss) (f.Name n' ss') h = rw (rolls-Name n ss, rolls-Name n' ss') (same_place n n' ss ss' (cc) (same_selects ss.items ss'.items (cc)))
same_layers (f.Name n ss) (f.Concat x' xs') h = cc
same_layers (f.Concat x xs) (f.Name n' ss') h = cc
same_layers (f.Concat x xs) (f.Concat x' xs') h =
    rw (rolls-Concat _ _, rolls-Concat x' xs') (same_places _ x' _ xs' (x.value.1 x'.value (cc)) (same_commas xs.items xs'.items (cc)))

settled : (x : Left-F Left) (y : Left-F Inner) → bare y ≡ x → Settled (roll-Left x)
settled x y is x' h =
    subst (λ (u : Left). SameLeft (roll-Left x) u) (roll-out-Left x')
    (subst (λ (u : Left-F Left). SameLeft (roll-Left u) (roll-Left (out-Left x'))) is
    (same_layers y (out-Left x') (ap layer is ∙ sym (fold-roll-Left Tree left_step x) ∙ h ∙ opened x')))

-- Left sides of one tree say the same.
pub same_left : (x x' : Left) → left_tree x ≡ left_tree x' → SameLeft x x'
same_left = ind-Left Settled settled

layer_down : (x : Left-F Left) → (y : Tree) × (layer x ≡ down y)
layer_down (f.Name n ss) = (_, refl)
layer_down (f.Concat x xs) = (_, refl)

-- The tree of a left side is a node.
pub left_down : (x : Left) → (y : Tree) × (left_tree x ≡ down y)
left_down x = let d = layer_down (out-Left x) in (d.0, opened x ∙ d.1)
