-- Parts of scopes, by the form of what they stand in.
use Rattle.std.proofs.Common.{◌≡◌, List, [], ◌∷◌, ◌++◌, Option, None, Some, map, refl, ap, sym, ◌∙◌}
use Rattle.std.specs.List.{flat_map}
use Rattle.std.specs.declared.vec.Vec.{Vec}
use Rattle.std.specs.declared.boxed.Box.{Box}
use Rattle.std.specs.declared.alloc.Global.{Global}
use Rattle.vs_syntax.specs.declared.tree.Expr.{Expr}
use Rattle.vs_syntax.specs.vs_logic4.specs.declared.case.CaseKind.{CaseKind}
use Rattle.vs_syntax.specs.declared.tree.CaseLabel.{CaseLabel}
use Rattle.vs_syntax.specs.declared.tree.DelayValue.{DelayValue}
use Rattle.vs_syntax.specs.declared.tree.EventControl.{EventControl}
use Rattle.vs_syntax.specs.declared.tree.ForHeader.{ForHeader}
use Rattle.vs_syntax.specs.declared.tree.Stmt.{Stmt}
use Rattle.vs_syntax.specs.declared.tree.Stmt.TheVariants as s
use Rattle.vs_syntax.specs.declared.tree.Stmt.TheOpen.{Stmt-F}
use Rattle.vs_syntax.specs.declared.tree.Stmt.TheOpen as f
use Rattle.vs_syntax.specs.declared.tree.Stmt.TheVariants.{rolls-Block, rolls-If, rolls-Case}
use Rattle.vs_syntax.specs.declared.tree.Stmt.TheViews.{roll-Stmt, out-Stmt, out-roll-Stmt}
use Rattle.vs_syntax.specs.declared.tree.Stmt.TheFolds.{fold-Stmt, fold-roll-Stmt, map-Stmt}
use Rattle.vs_syntax.specs.declared.tree.ModuleItem.{ModuleItem}
use Rattle.vs_syntax.specs.declared.tree.ModuleItem.TheVariants as i
use Rattle.vs_syntax.specs.declared.tree.ModuleItem.TheOpen.{ModuleItem-F}
use Rattle.vs_syntax.specs.declared.tree.ModuleItem.TheOpen as m
use Rattle.vs_syntax.specs.declared.tree.ModuleItem.TheVariants.{rolls-Region}
use Rattle.vs_syntax.specs.declared.tree.ModuleItem.TheViews.{roll-ModuleItem, out-ModuleItem, out-roll-ModuleItem}
use Rattle.vs_syntax.specs.declared.tree.ModuleItem.TheFolds.{fold-ModuleItem, fold-roll-ModuleItem, map-ModuleItem}
use Rattle.vs_scopes.specs.Pieces.{NamedBlock, Piece, each_of, blocks_step, blocks_in, blocks_among, pieces_step, pieces_in, pieces_of}
use Rattle.vs_scopes.specs.pieces_passes.Parts.{blocks_of_else, blocks_in_items}

-- what functions made of values give of those values
pub each_of_made : {A B : Type 0} (g : A → A → List B) (xs : List A) → each_of (map g xs) xs ≡ flat_map (λ x. g x x) xs
each_of_made g [] = refl
each_of_made g (x ∷ xs) = ap (λ l. g x x ++ l) (each_of_made g xs)

-- the same of the second parts of pairs
each_of_second : {L A B : Type 0} (g : A → A → List B) (xs : List (L × A)) →
    each_of (map (λ (p : L × (A → List B)). p.1) (map (λ (x : L × A). (x.0, g x.1)) xs)) (map (λ (x : L × A). x.1) xs) ≡ flat_map (λ (x : L × A). g x.1 x.1) xs
each_of_second g [] = refl
each_of_second g (x ∷ xs) = ap (λ l. g x.1 x.1 ++ l) (each_of_second g xs)

-- ---- named blocks

abbrev blocks_by : Stmt → Stmt → List NamedBlock
blocks_by = fold-Stmt (Stmt → List NamedBlock) (λ l y. blocks_step l (out-Stmt y))

-- the named blocks of one layer
blocks_layer : (l : Stmt-F Stmt) (x : Stmt) → roll-Stmt l ≡ x → blocks_in x ≡ blocks_step (map-Stmt Stmt (Stmt → List NamedBlock) blocks_by l) l
blocks_layer l x h =
    ap blocks_in (sym h) ∙ ap (λ (g : Stmt → List NamedBlock). g (roll-Stmt l)) (fold-roll-Stmt (Stmt → List NamedBlock) (λ l y. blocks_step l (out-Stmt y)) l)
    ∙ ap (blocks_step (map-Stmt Stmt (Stmt → List NamedBlock) blocks_by l)) (out-roll-Stmt l)

pub blocks_Block : (xs : Vec Stmt Global) → blocks_in (s.Block xs) ≡ blocks_among xs.items
blocks_Block xs = blocks_layer (f.Block xs) _ (rolls-Block xs) ∙ each_of_made blocks_by xs.items

pub blocks_For : (k : Box ForHeader Global) (x : Box Stmt Global) → blocks_in (s.For k x) ≡ blocks_in x.value
blocks_For k x = blocks_layer (f.For k x) _ (s.rolls-For k x)

pub blocks_While : (e : Expr) (x : Box Stmt Global) → blocks_in (s.While e x) ≡ blocks_in x.value
blocks_While e x = blocks_layer (f.While e x) _ (s.rolls-While e x)

pub blocks_Repeat : (e : Expr) (x : Box Stmt Global) → blocks_in (s.Repeat e x) ≡ blocks_in x.value
blocks_Repeat e x = blocks_layer (f.Repeat e x) _ (s.rolls-Repeat e x)

pub blocks_Delay : (d : DelayValue) (x : Box Stmt Global) → blocks_in (s.Delay d x) ≡ blocks_in x.value
blocks_Delay d x = blocks_layer (f.Delay d x) _ (s.rolls-Delay d x)

pub blocks_Event : (v : EventControl) (x : Box Stmt Global) → blocks_in (s.Event v x) ≡ blocks_in x.value
blocks_Event v x = blocks_layer (f.Event v x) _ (s.rolls-Event v x)

pub blocks_If : (e : Box Expr Global) (x : Box Stmt Global) (o : Option (Box Stmt Global)) → blocks_in (s.If e x o) ≡ blocks_in x.value ++ blocks_of_else o
blocks_If e x None = blocks_layer (f.If e x None) _ (rolls-If e x None)
blocks_If e x (Some y) = blocks_layer (f.If e x (Some y)) _ (rolls-If e x (Some y))

pub blocks_Case : (k : CaseKind) (e : Box Expr Global) (xs : Vec (CaseLabel × Stmt) Global) → blocks_in (s.Case k e xs) ≡ blocks_in_items xs.items
blocks_Case k e xs = blocks_layer (f.Case k e xs) _ (rolls-Case k e xs) ∙ each_of_second blocks_by xs.items

-- ---- pieces

abbrev pieces_by : ModuleItem → ModuleItem → List Piece
pieces_by = fold-ModuleItem (ModuleItem → List Piece) (λ l y. pieces_step l (out-ModuleItem y))

-- the pieces of one layer
pieces_layer : (l : ModuleItem-F ModuleItem) (x : ModuleItem) → roll-ModuleItem l ≡ x → pieces_in x ≡ pieces_step (map-ModuleItem ModuleItem (ModuleItem → List Piece) pieces_by l) l
pieces_layer l x h =
    ap pieces_in (sym h) ∙ ap (λ (g : ModuleItem → List Piece). g (roll-ModuleItem l)) (fold-roll-ModuleItem (ModuleItem → List Piece) (λ l y. pieces_step l (out-ModuleItem y)) l)
    ∙ ap (pieces_step (map-ModuleItem ModuleItem (ModuleItem → List Piece) pieces_by l)) (out-roll-ModuleItem l)

pub pieces_Region : (xs : Vec ModuleItem Global) → pieces_in (i.Region xs) ≡ pieces_of xs.items
pieces_Region xs = pieces_layer (m.Region xs) _ (rolls-Region xs) ∙ each_of_made pieces_by xs.items
