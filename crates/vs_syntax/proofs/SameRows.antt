-- Parts of one row of the grammar, each with the one in its place.
use Rattle.std.specs.Prelude.{◌≡◌, List, [], ◌∷◌, map}
use Rattle.vs_lexer.specs.declared.token.Mark.TheVariants as m
use Rattle.vs_syntax.specs.Symbols.{a_mark}
use Rattle.vs_syntax.specs.Derivation.{Tree, leaf, both}
use Rattle.vs_syntax.specs.Views.{row_of, comma_list_tree}
use Rattle.vs_syntax.specs.Same.{Pairwise, no_pair, pair_more}

pub pairs : {A : Type 0} (R : A → A → Type 0) (tree : A → Tree) → ((x x' : A) → tree x ≡ tree x' → R x x') → (xs xs' : List A) → row_of (map tree xs) ≡ row_of (map tree xs') → Pairwise R xs xs'
pairs R tree f [] [] h = no_pair
pairs R tree f [] (x' ∷ xs') h = cc
pairs R tree f (x ∷ xs) [] h = cc
pairs R tree f (x ∷ xs) (x' ∷ xs') h = pair_more x x' xs xs' (f x x' (cc)) (pairs R tree f xs xs' (cc))

-- the same of parts behind commas
pub comma_pairs : {A : Type 0} (R : A → A → Type 0) (tree : A → Tree) → ((x x' : A) → tree x ≡ tree x' → R x x') → (xs xs' : List A) → row_of (map (both (leaf (a_mark m.Comma))) (map tree xs)) ≡ row_of (map (both (leaf (a_mark m.Comma))) (map tree xs')) → Pairwise R xs xs'
comma_pairs R tree f [] [] h = no_pair
comma_pairs R tree f [] (x' ∷ xs') h = cc
comma_pairs R tree f (x ∷ xs) [] h = cc
comma_pairs R tree f (x ∷ xs) (x' ∷ xs') h = pair_more x x' xs xs' (f x x' (cc)) (comma_pairs R tree f xs xs' (cc))

pub listed_pairs : {A : Type 0} (R : A → A → Type 0) (tree : A → Tree) → ((x x' : A) → tree x ≡ tree x' → R x x') → (xs xs' : List A) → comma_list_tree (map tree xs) ≡ comma_list_tree (map tree xs') → Pairwise R xs xs'
listed_pairs R tree f [] [] h = no_pair
listed_pairs R tree f [] (x' ∷ xs') h = cc
listed_pairs R tree f (x ∷ xs) [] h = cc
listed_pairs R tree f (x ∷ xs) (x' ∷ xs') h = pair_more x x' xs xs' (f x x' (cc)) (comma_pairs R tree f xs xs' (cc))
