-- Pieces of scopes of sources that say the same.
use Rattle.std.proofs.Common.{◌≡◌, ℕ, List, [], ◌∷◌, ◌++◌, Option, Some, None, map, refl, ap, ap₂, sym, subst, ◌∙◌}
use Rattle.std.specs.declared.vec.Vec.{Vec}
use Rattle.std.specs.declared.boxed.Box.{Box}
use Rattle.std.specs.declared.alloc.Global.{Global}
use Rattle.vs_syntax.specs.declared.tree.CaseLabel.{CaseLabel}
use Rattle.vs_syntax.specs.declared.tree.Expr.{Expr}
use Rattle.vs_syntax.specs.declared.tree.Item.{Item}
use Rattle.vs_syntax.specs.declared.tree.LocalDeclaration.{LocalDeclaration}
use Rattle.vs_syntax.specs.declared.tree.LoopHeader.{LoopHeader}
use Rattle.vs_syntax.specs.declared.tree.Stmt.{Stmt}
use Rattle.vs_syntax.specs.declared.tree.Stmt.TheOpen.{Stmt-F}
use Rattle.vs_syntax.specs.declared.tree.Stmt.TheOpen as sf
use Rattle.vs_syntax.specs.declared.tree.Stmt.TheVariants.{rolls-Null, rolls-Assign, rolls-Later, rolls-Block, rolls-Named, rolls-If, rolls-Case, rolls-For, rolls-While, rolls-Repeat, rolls-Forever, rolls-Delay, rolls-Event, rolls-Print, rolls-Finish, rolls-Dump}
use Rattle.vs_syntax.specs.declared.tree.Stmt.TheViews.{roll-Stmt}
use Rattle.vs_syntax.specs.declared.tree.ModuleItem.{ModuleItem}
use Rattle.vs_syntax.specs.declared.tree.ModuleItem.TheOpen.{ModuleItem-F}
use Rattle.vs_syntax.specs.declared.tree.ModuleItem.TheOpen as mf
use Rattle.vs_syntax.specs.declared.tree.ModuleItem.TheVariants.{rolls-Plain, rolls-Region, rolls-For as rolls-Loop, rolls-If as rolls-Condition, rolls-Null as rolls-Nothing, rolls-Block as rolls-Generated}
use Rattle.vs_syntax.specs.declared.tree.ModuleItem.TheViews.{roll-ModuleItem}
use Rattle.vs_syntax.specs.declared.tree.ModuleItem.TheFolds.{fold-roll-ModuleItem, map-ModuleItem}
use Rattle.vs_syntax.specs.Same.{SameExpr, Pairwise, no_pair, pair_more, SameOption, both_absent, both_there, SameName, SameLocals, SameStmt, same_null, same_assign, same_later, same_block, same_named_block, same_if, same_case, same_for, same_while, same_repeated, same_forever, same_delay, same_event, same_print, same_finish, same_dump, SameStmts, same_no_stmt, same_more_stmts, SameElse, same_no_else, same_else, SameCaseItems, same_no_item, same_more_items, SameItem, same_port_item, same_genvars, same_wire, same_reg, same_integer, same_parameters, same_localparams, same_instances, same_assigns, same_initial, same_always, SameLoopHeader, SameModuleItem, same_plain, same_region, same_generate_loop, same_generate_if, same_no_content, same_generate_block, SameOther, same_no_other, same_other, SameModuleItems, same_no_module_item, same_more_module_items}
use Rattle.vs_scopes.specs.Pieces.{each_of, NamedBlock, blocks_in, blocks_among, blocks_of, Piece, plain, loop, choice, local, inside, net, unboxed, pieces_in, pieces_of, block_pieces, Content, nothing, block, name_given, content_step, content_of, block_name, names_step, branch_names, other_names}
use Rattle.vs_elaborate.proofs.LayerLemmas.{blocks_by, blocks_layered, blocks_layer, pieces_by, pieces_layered, pieces_layer, content_layer}
use Rattle.vs_elaborate.proofs.PairLemmas.{pair_append, pair_map}
use Rattle.vs_elaborate.proofs.SameTypedLemmas.{by_both}

pub one_pair : {A : Type 0} (R : A → A → Type 0) (x x' : A) → R x x' → Pairwise R (x ∷ []) (x' ∷ [])
one_pair R x x' h = pair_more x x' [] [] h no_pair

-- ---- named blocks

pub record SameBlock (b b' : NamedBlock) : Type 0 where
  pub name : b.name ≡ b'.name
  pub locals : Pairwise SameLocals b.locals b'.locals
  pub statements : SameStmts b.statements b'.statements

abbrev AreSameBlocks : List NamedBlock → List NamedBlock → Type 0
AreSameBlocks = Pairwise SameBlock

both_blocks : (l l' : Stmt-F Stmt) (x x' : Stmt) → roll-Stmt l ≡ x → roll-Stmt l' ≡ x' → AreSameBlocks (blocks_layered l) (blocks_layered l') → AreSameBlocks (blocks_in x) (blocks_in x')
both_blocks l l' x x' h h' m = by_both AreSameBlocks (blocks_in x) (blocks_in x') (blocks_layered l) (blocks_layered l') (blocks_layer l x h) (blocks_layer l' x' h') m

-- the named blocks of the items of a `case`
abbrev item_blocks : List (CaseLabel × Stmt) → List NamedBlock
item_blocks xs = each_of (map (λ (g : CaseLabel × (Stmt → List NamedBlock)). g.1) (map (λ (x : CaseLabel × Stmt). (x.0, blocks_by x.1)) xs)) (map (λ (x : CaseLabel × Stmt). x.1) xs)

mutual
  -- the outermost named blocks of statements that say the same
  pub blocks_same : (x x' : Stmt) → SameStmt x x' → Pairwise SameBlock (blocks_in x) (blocks_in x')
  blocks_same x x' same_null = both_blocks sf.Null sf.Null x x' rolls-Null rolls-Null no_pair
  blocks_same x x' (same_assign l l' e e' i m) = both_blocks (sf.Assign l e) (sf.Assign l' e') x x' (rolls-Assign l e) (rolls-Assign l' e') no_pair
  blocks_same x x' (same_later l l' v v' e e' i r m) = both_blocks (sf.Later l v e) (sf.Later l' v' e') x x' (rolls-Later l v e) (rolls-Later l' v' e') no_pair
  blocks_same x x' (same_block ys ys' m) = both_blocks (sf.Block ys) (sf.Block ys') x x' (rolls-Block ys) (rolls-Block ys') (all_blocks_same ys.items ys'.items m)
  blocks_same x x' (same_named_block n n' ls ls' ys ys' i m r) =
      both_blocks (sf.Named n ls ys) (sf.Named n' ls' ys') x x' (rolls-Named n ls ys) (rolls-Named n' ls' ys') (one_pair SameBlock _ _ (record { name = i; locals = m; statements = r }))
  blocks_same x x' (same_if e e' y y' o o' i m r) =
      both_blocks (sf.If e y o) (sf.If e' y' o') x x' (rolls-If e y o) (rolls-If e' y' o') (with_else e e' y y' o o' (blocks_same y.value y'.value m) r)
  blocks_same x x' (same_case kind e e' ys ys' i m) =
      both_blocks (sf.Case kind e ys) (sf.Case kind e' ys') x x' (rolls-Case kind e ys) (rolls-Case kind e' ys') (item_blocks_same ys.items ys'.items m)
  blocks_same x x' (same_for k k' y y' i1 i2 i3 i4 i5 m) =
      both_blocks (sf.For k y) (sf.For k' y') x x' (rolls-For k y) (rolls-For k' y') (blocks_same y.value y'.value m)
  blocks_same x x' (same_while e e' y y' i m) = both_blocks (sf.While e y) (sf.While e' y') x x' (rolls-While e y) (rolls-While e' y') (blocks_same y.value y'.value m)
  blocks_same x x' (same_repeated e e' y y' i m) = both_blocks (sf.Repeat e y) (sf.Repeat e' y') x x' (rolls-Repeat e y) (rolls-Repeat e' y') (blocks_same y.value y'.value m)
  blocks_same x x' (same_forever y y' m) = both_blocks (sf.Forever y) (sf.Forever y') x x' (rolls-Forever y) (rolls-Forever y') (blocks_same y.value y'.value m)
  blocks_same x x' (same_delay v v' y y' i m) = both_blocks (sf.Delay v y) (sf.Delay v' y') x x' (rolls-Delay v y) (rolls-Delay v' y') (blocks_same y.value y'.value m)
  blocks_same x x' (same_event v v' y y' i m) = both_blocks (sf.Event v y) (sf.Event v' y') x x' (rolls-Event v y) (rolls-Event v' y') (blocks_same y.value y'.value m)
  blocks_same x x' (same_print task xs xs' m) = both_blocks (sf.Print task xs) (sf.Print task xs') x x' (rolls-Print task xs) (rolls-Print task xs') no_pair
  blocks_same x x' (same_finish n) = both_blocks (sf.Finish n) (sf.Finish n) x x' (rolls-Finish n) (rolls-Finish n) no_pair
  blocks_same x x' (same_dump task xs xs' m) = both_blocks (sf.Dump task xs) (sf.Dump task xs') x x' (rolls-Dump task xs) (rolls-Dump task xs') no_pair

  with_else : (e e' : Box Expr Global) (y y' : Box Stmt Global) (o o' : Option (Box Stmt Global)) → AreSameBlocks (blocks_in y.value) (blocks_in y'.value) → SameElse o o' → AreSameBlocks (blocks_layered (sf.If e y o)) (blocks_layered (sf.If e' y' o'))
  with_else e e' y y' _ _ m same_no_else = pair_append SameBlock (blocks_in y.value) (blocks_in y'.value) [] [] m no_pair
  with_else e e' y y' _ _ m (same_else z z' k) = pair_append SameBlock (blocks_in y.value) (blocks_in y'.value) (blocks_in z.value) (blocks_in z'.value) m (blocks_same z.value z'.value k)

  all_blocks_same : (xs xs' : List Stmt) → SameStmts xs xs' → AreSameBlocks (each_of (map blocks_by xs) xs) (each_of (map blocks_by xs') xs')
  all_blocks_same _ _ same_no_stmt = no_pair
  all_blocks_same _ _ (same_more_stmts x x' xs xs' m r) =
      pair_append SameBlock (blocks_in x) (blocks_in x') (each_of (map blocks_by xs) xs) (each_of (map blocks_by xs') xs') (blocks_same x x' m) (all_blocks_same xs xs' r)

  item_blocks_same : (xs xs' : List (CaseLabel × Stmt)) → SameCaseItems xs xs' → AreSameBlocks (item_blocks xs) (item_blocks xs')
  item_blocks_same _ _ same_no_item = no_pair
  item_blocks_same _ _ (same_more_items x x' xs xs' h m r) = pair_append SameBlock (blocks_in x.1) (blocks_in x'.1) (item_blocks xs) (item_blocks xs') (blocks_same x.1 x'.1 m) (item_blocks_same xs xs' r)

among_same : (xs xs' : List Stmt) → SameStmts xs xs' → AreSameBlocks (blocks_among xs) (blocks_among xs')
among_same _ _ same_no_stmt = no_pair
among_same _ _ (same_more_stmts x x' xs xs' m r) = pair_append SameBlock (blocks_in x) (blocks_in x') (blocks_among xs) (blocks_among xs') (blocks_same x x' m) (among_same xs xs' r)

-- the outermost named blocks of the process of an item
pub item_blocks_of : (x x' : Item) → SameItem x x' → Pairwise SameBlock (blocks_of x) (blocks_of x')
item_blocks_of _ _ (same_port_item f f' ns ns' g p) = no_pair
item_blocks_of _ _ (same_genvars ns ns' p) = no_pair
item_blocks_of _ _ (same_wire f f' ds ds' g p) = no_pair
item_blocks_of _ _ (same_reg f f' ds ds' g p) = no_pair
item_blocks_of _ _ (same_integer ds ds' p) = no_pair
item_blocks_of _ _ (same_parameters f f' xs xs' g p) = no_pair
item_blocks_of _ _ (same_localparams f f' xs xs' g p) = no_pair
item_blocks_of _ _ (same_instances n n' o o' xs xs' i g p) = no_pair
item_blocks_of _ _ (same_assigns xs xs' p) = no_pair
item_blocks_of _ _ (same_initial x x' p) = blocks_same x x' p
item_blocks_of _ _ (same_always x x' p) = blocks_same x x' p

-- ---- pieces

pub data SamePiece : Piece → Piece → Type 0 where
  plain_same : (x x' : Item) → SameItem x x' → SamePiece (plain x) (plain x')
  loop_same : (h h' : LoopHeader) (x x' : ModuleItem) → SameLoopHeader h h' → SameModuleItem x x' → SamePiece (loop h x) (loop h' x')
  choice_same : (e e' : Expr) (x x' : ModuleItem) (o o' : Option ModuleItem) → SameExpr e e' → SameModuleItem x x' → SameOption SameModuleItem o o' →
      SamePiece (choice e x o) (choice e' x' o')
  local_same : (x x' : LocalDeclaration) → SameLocals x x' → SamePiece (local x) (local x')
  inside_same : (b b' : NamedBlock) → SameBlock b b' → SamePiece (inside b) (inside b')
  net_same : (n : List ℕ) → SamePiece (net n) (net n)

abbrev pub AreSamePieces : List Piece → List Piece → Type 0
AreSamePieces = Pairwise SamePiece

both_pieces : (l l' : ModuleItem-F ModuleItem) (x x' : ModuleItem) → roll-ModuleItem l ≡ x → roll-ModuleItem l' ≡ x' → AreSamePieces (pieces_layered l) (pieces_layered l') → AreSamePieces (pieces_in x) (pieces_in x')
both_pieces l l' x x' h h' m = by_both AreSamePieces (pieces_in x) (pieces_in x') (pieces_layered l) (pieces_layered l') (pieces_layer l x h) (pieces_layer l' x' h') m

unboxed_same : (o o' : Option (Box ModuleItem Global)) → SameOther o o' → SameOption SameModuleItem (unboxed o) (unboxed o')
unboxed_same _ _ same_no_other = both_absent
unboxed_same _ _ (same_other x x' m) = both_there x.value x'.value m

mutual
  pub item_pieces : (x x' : ModuleItem) → SameModuleItem x x' → AreSamePieces (pieces_in x) (pieces_in x')
  item_pieces x x' (same_plain y y' m) = both_pieces (mf.Plain y) (mf.Plain y') x x' (rolls-Plain y) (rolls-Plain y') (one_pair SamePiece _ _ (plain_same y y' m))
  item_pieces x x' (same_region ys ys' r) = both_pieces (mf.Region ys) (mf.Region ys') x x' (rolls-Region ys) (rolls-Region ys') (region_pieces ys.items ys'.items r)
  item_pieces x x' (same_generate_loop h h' y y' i m) =
      both_pieces (mf.For h y) (mf.For h' y') x x' (rolls-Loop h y) (rolls-Loop h' y') (one_pair SamePiece _ _ (loop_same h h' y.value y'.value i m))
  item_pieces x x' (same_generate_if e e' y y' o o' i m r) =
      both_pieces (mf.If e y o) (mf.If e' y' o') x x' (rolls-Condition e y o) (rolls-Condition e' y' o')
      (one_pair SamePiece _ _ (choice_same e e' y.value y'.value (unboxed o) (unboxed o') i m (unboxed_same o o' r)))
  item_pieces x x' same_no_content = both_pieces mf.Null mf.Null x x' rolls-Nothing rolls-Nothing no_pair
  item_pieces x x' (same_generate_block n n' ys ys' i r) = both_pieces (mf.Block n ys) (mf.Block n' ys') x x' (rolls-Generated n ys) (rolls-Generated n' ys') no_pair

  region_pieces : (xs xs' : List ModuleItem) → SameModuleItems xs xs' → AreSamePieces (each_of (map pieces_by xs) xs) (each_of (map pieces_by xs') xs')
  region_pieces _ _ same_no_module_item = no_pair
  region_pieces _ _ (same_more_module_items x x' xs xs' m r) =
      pair_append SamePiece (pieces_in x) (pieces_in x') (each_of (map pieces_by xs) xs) (each_of (map pieces_by xs') xs') (item_pieces x x' m) (region_pieces xs xs' r)

-- the pieces of module items that say the same
pub pieces_same : (xs xs' : List ModuleItem) → SameModuleItems xs xs' → AreSamePieces (pieces_of xs) (pieces_of xs')
pieces_same _ _ same_no_module_item = no_pair
pieces_same _ _ (same_more_module_items x x' xs xs' m r) = pair_append SamePiece (pieces_in x) (pieces_in x') (pieces_of xs) (pieces_of xs') (item_pieces x x' m) (pieces_same xs xs' r)

-- the pieces of named blocks that say the same
pub block_pieces_same : (b b' : NamedBlock) → SameBlock b b' → AreSamePieces (block_pieces b) (block_pieces b')
block_pieces_same b b' h =
    pair_append SamePiece (map local b.locals) (map local b'.locals) (map inside (blocks_among b.statements)) (map inside (blocks_among b'.statements))
    (pair_map SameLocals SamePiece local local local_same b.locals b'.locals h.locals)
    (pair_map SameBlock SamePiece inside inside inside_same (blocks_among b.statements) (blocks_among b'.statements) (among_same b.statements b'.statements h.statements))

-- ---- what constructs generate

pub data SameContent : Content → Content → Type 0 where
  nothing_same : SameContent nothing nothing
  content_same : (n : Option (List ℕ)) (xs xs' : List ModuleItem) → SameModuleItems xs xs' → SameContent (block n xs) (block n xs')

both_content : (l l' : ModuleItem-F ModuleItem) (x x' : ModuleItem) → roll-ModuleItem l ≡ x → roll-ModuleItem l' ≡ x' → SameContent (content_step l x) (content_step l' x') → SameContent (content_of x) (content_of x')
both_content l l' x x' h h' m = by_both SameContent (content_of x) (content_of x') (content_step l x) (content_step l' x') (content_layer l x h) (content_layer l' x' h') m

given_same : (n n' : Option (Vec ℕ Global)) → SameOption SameName n n' → name_given n ≡ name_given n'
given_same _ _ both_absent = refl
given_same _ _ (both_there n n' i) = ap Some i

alone : (x x' : ModuleItem) → SameModuleItem x x' → SameContent (block None (x ∷ [])) (block None (x' ∷ []))
alone x x' m = content_same None (x ∷ []) (x' ∷ []) (same_more_module_items x x' [] [] m same_no_module_item)

-- what module items that say the same are behind `for`, `if` or `else`
pub contents_same : (x x' : ModuleItem) → SameModuleItem x x' → SameContent (content_of x) (content_of x')
contents_same x x' (same_plain y y' m) = both_content (mf.Plain y) (mf.Plain y') x x' (rolls-Plain y) (rolls-Plain y') (alone x x' (same_plain y y' m))
contents_same x x' (same_region ys ys' r) = both_content (mf.Region ys) (mf.Region ys') x x' (rolls-Region ys) (rolls-Region ys') (alone x x' (same_region ys ys' r))
contents_same x x' (same_generate_loop h h' y y' i m) =
    both_content (mf.For h y) (mf.For h' y') x x' (rolls-Loop h y) (rolls-Loop h' y') (alone x x' (same_generate_loop h h' y y' i m))
contents_same x x' (same_generate_if e e' y y' o o' i m r) =
    both_content (mf.If e y o) (mf.If e' y' o') x x' (rolls-Condition e y o) (rolls-Condition e' y' o') (alone x x' (same_generate_if e e' y y' o o' i m r))
contents_same x x' same_no_content = both_content mf.Null mf.Null x x' rolls-Nothing rolls-Nothing nothing_same
contents_same x x' (same_generate_block n n' ys ys' i r) =
    both_content (mf.Block n ys) (mf.Block n' ys') x x' (rolls-Generated n ys) (rolls-Generated n' ys')
    (subst (λ z. SameContent (block (name_given n) ys.items) (block z ys'.items)) (given_same n n' i) (content_same (name_given n) ys.items ys'.items r))

-- the names of what may be generated
pub block_name_same : (x x' : Content) → SameContent x x' → block_name x ≡ block_name x'
block_name_same _ _ nothing_same = refl
block_name_same _ _ (content_same n xs xs' r) = by n
  where
    by : (n : Option (List ℕ)) → block_name (block n xs) ≡ block_name (block n xs')
    by None = refl
    by (Some n) = refl

names_layer : (l : ModuleItem-F ModuleItem) (x : ModuleItem) → roll-ModuleItem l ≡ x → branch_names x ≡ names_step (map-ModuleItem ModuleItem (List (List ℕ)) branch_names l)
names_layer l x h = ap branch_names (sym h) ∙ fold-roll-ModuleItem (List (List ℕ)) names_step l

both_names : (l l' : ModuleItem-F ModuleItem) (x x' : ModuleItem) → roll-ModuleItem l ≡ x → roll-ModuleItem l' ≡ x' →
    names_step (map-ModuleItem ModuleItem (List (List ℕ)) branch_names l) ≡ names_step (map-ModuleItem ModuleItem (List (List ℕ)) branch_names l') → branch_names x ≡ branch_names x'
both_names l l' x x' h h' e = names_layer l x h ∙ e ∙ sym (names_layer l' x' h')

pub branches_same : (x x' : ModuleItem) → SameModuleItem x x' → branch_names x ≡ branch_names x'
branches_same x x' (same_plain y y' m) = both_names (mf.Plain y) (mf.Plain y') x x' (rolls-Plain y) (rolls-Plain y') refl
branches_same x x' (same_region ys ys' r) = both_names (mf.Region ys) (mf.Region ys') x x' (rolls-Region ys) (rolls-Region ys') refl
branches_same x x' (same_generate_loop h h' y y' i m) = both_names (mf.For h y) (mf.For h' y') x x' (rolls-Loop h y) (rolls-Loop h' y') refl
branches_same x x' (same_generate_if e e' y y' _ _ i m same_no_other) =
    both_names (mf.If e y None) (mf.If e' y' None) x x' (rolls-Condition e y None) (rolls-Condition e' y' None) (ap (λ ns. ns ++ []) (branches_same y.value y'.value m))
branches_same x x' (same_generate_if e e' y y' _ _ i m (same_other z z' r)) =
    both_names (mf.If e y (Some z)) (mf.If e' y' (Some z')) x x' (rolls-Condition e y (Some z)) (rolls-Condition e' y' (Some z'))
    (ap₂ (λ a b. a ++ b) (branches_same y.value y'.value m) (branches_same z.value z'.value r))
branches_same x x' same_no_content = both_names mf.Null mf.Null x x' rolls-Nothing rolls-Nothing refl
branches_same x x' (same_generate_block _ _ ys ys' both_absent r) = both_names (mf.Block None ys) (mf.Block None ys') x x' (rolls-Generated None ys) (rolls-Generated None ys') refl
branches_same x x' (same_generate_block _ _ ys ys' (both_there n n' i) r) =
    both_names (mf.Block (Some n) ys) (mf.Block (Some n') ys') x x' (rolls-Generated (Some n) ys) (rolls-Generated (Some n') ys') (ap (λ (z : List ℕ). z ∷ []) i)

pub others_same : (o o' : Option ModuleItem) → SameOption SameModuleItem o o' → other_names o ≡ other_names o'
others_same _ _ both_absent = refl
others_same _ _ (both_there x x' m) = branches_same x x' m
