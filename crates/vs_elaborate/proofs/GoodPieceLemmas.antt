-- What stands in scopes has names that pass, where those of modules do.
use Rattle.std.proofs.Common.{◌≡◌, ℕ, suc, ℤ, Bool, true, false, ◌||◌, cond, List, [], ◌∷◌, ◌++◌, Option, Some, None, map, refl, ap, sym, subst}
use Rattle.std.specs.List.{list_all, list_any, flat_map, AllByRecursion}
use Rattle.std.specs.Str.{bytes_eq}
use Rattle.std.specs.declared.vec.Vec.{Vec}
use Rattle.std.specs.declared.boxed.Box.{Box}
use Rattle.std.specs.declared.alloc.Global.{Global}
use Rattle.std.proofs.lemmas.Bool.{and_parts, cond_both}
use Rattle.std.proofs.lemmas.List.Elements.{recursion_from_All}
use Rattle.vs_syntax.specs.declared.tree.CaseLabel.{CaseLabel}
use Rattle.vs_syntax.specs.declared.tree.Connections.{Connections}
use Rattle.vs_syntax.specs.declared.tree.Expr.{Expr}
use Rattle.vs_syntax.specs.declared.tree.Instance.{Instance}
use Rattle.vs_syntax.specs.declared.tree.Item.{Item}
use Rattle.vs_syntax.specs.declared.tree.Item.TheVariants as i
use Rattle.vs_syntax.specs.declared.tree.LocalDeclaration.{LocalDeclaration}
use Rattle.vs_syntax.specs.declared.tree.Stmt.{Stmt, Stmt-F, roll-Stmt, ind-Stmt, map-Stmt, fold-roll-Stmt}
use Rattle.vs_syntax.specs.declared.tree.Stmt.TheOpen as sf
use Rattle.vs_syntax.specs.declared.tree.ModuleItem.{ModuleItem, ModuleItem-F, roll-ModuleItem, out-ModuleItem, roll-out-ModuleItem, ind-ModuleItem, map-ModuleItem, fold-roll-ModuleItem}
use Rattle.vs_syntax.specs.declared.tree.ModuleItem.TheOpen as mf
use Rattle.vs_syntax.specs.SourceNames.{local_names, stmt_names_step, stmt_names, item_names, instance_names}
use Rattle.vs_scopes.specs.Uses.{names_used_by, names_used}
use Rattle.vs_scopes.specs.Pieces.{each_of, NamedBlock, blocks_in, blocks_among, blocks_of, Piece, plain, loop, choice, local, inside, net, pieces_in, pieces_of, block_pieces, Content, nothing, block, content_step, content_of}
use Rattle.vs_elab_statements.specs.vs_widths.specs.declared.constants.Const.{Const}
use Rattle.vs_elab_statements.specs.vs_widths.specs.Environment.{Environment}
use Rattle.vs_elaborate.specs.vs_scopes.specs.Declarations.{Bindings, use_of, uses_by_item}
use Rattle.vs_elaborate.specs.vs_scopes.specs.Nets.{Sight, new_among, with_nets, is_known, pieces_with_nets}
use Rattle.vs_elaborate.specs.vs_scopes.specs.Parameters.{any_fault}
use Rattle.vs_elaborate.specs.vs_scopes.specs.Generate.{genvar_number, holds, condition_fault, Turns, turns, faulty, endless, turns_of, Taken, takes, refused, decided, branch_taken, other_taken, chosen, name_of_block, Inner, instance, generated, named, generates, content_inner, turns_inner, loop_inner, choice_inner, inner_in, after_piece, inner_from}
use Rattle.vs_elaborate.specs.vs_elab_hierarchy.specs.Laws.{FitsTurn, IsTurn}
use Rattle.vs_elaborate.specs.vs_elab_hierarchy.proofs.TurnLemmas.{turns_differ}
use Rattle.vs_elaborate.specs.Named.{NumberedPass}
use Rattle.vs_elaborate.proofs.LayerLemmas.{blocks_by, blocks_layered, blocks_layer, pieces_by, pieces_layered, pieces_layer, content_layer, taken_layered, taken_layer}
use Rattle.vs_elaborate.proofs.GoodNameLemmas.{all_item_names, all_names_step, all_module_item_names}
use Rattle.vs_elaborate.proofs.GoodTextLemmas.{both, halves, each_append, HasGood, block_name_good}

module _ (good : List ℕ → Bool) where
  -- names that pass
  abbrev AreGood : List (List ℕ) → Type 0
  AreGood ns = list_all good ns ≡ true

  -- ---- named blocks

  -- a named block whose names, with those of what stands in it, pass
  pub record IsGoodBlock (b : NamedBlock) : Type 0 where
    pub name : good b.name ≡ true
    pub locals : AreGood (flat_map local_names b.locals)
    pub statements : AreGood (flat_map stmt_names b.statements)

  abbrev AreGoodBlocks : List NamedBlock → Type 0
  AreGoodBlocks = AllByRecursion IsGoodBlock

  -- a statement's named blocks are such where its names pass
  abbrev HasGoodBlocks : Stmt → Type 0
  HasGoodBlocks x = AreGood (stmt_names x) → AreGoodBlocks (blocks_in x)

  -- the names of one layer
  abbrev names_layered : Stmt-F Stmt → List (List ℕ)
  names_layered l = stmt_names_step (map-Stmt Stmt (List (List ℕ)) stmt_names l)

  by_layer : (l : Stmt-F Stmt) → (AreGood (names_layered l) → AreGoodBlocks (blocks_layered l)) → HasGoodBlocks (roll-Stmt l)
  by_layer l f h = subst AreGoodBlocks (sym (blocks_layer l (roll-Stmt l) refl)) (f (subst AreGood (fold-roll-Stmt (List (List ℕ)) stmt_names_step l) h))

  abbrev InnerStmt : Type 0
  InnerStmt = (x : Stmt) × HasGoodBlocks x

  abbrev bare_stmt : Stmt-F InnerStmt → Stmt-F Stmt
  bare_stmt y = map-Stmt InnerStmt Stmt (λ p. p.0) y

  -- statements without what is known of them
  abbrev bare_stmts : List InnerStmt → List Stmt
  bare_stmts xs = map (λ (p : InnerStmt). p.0) xs

  names_joined : (xs : List Stmt) → flat_map (λ (ns : List (List ℕ)). ns) (map stmt_names xs) ≡ flat_map stmt_names xs
  names_joined [] = refl
  names_joined (x ∷ xs) = ap (λ (ns : List (List ℕ)). stmt_names x ++ ns) (names_joined xs)

  stmts_good : (xs : List InnerStmt) → AreGood (flat_map (λ (ns : List (List ℕ)). ns) (map stmt_names (bare_stmts xs))) → AreGoodBlocks (each_of (map blocks_by (bare_stmts xs)) (bare_stmts xs))
  stmts_good [] h = tt
  stmts_good (x ∷ xs) h =
      let parts = halves good (stmt_names x.0) (flat_map (λ (ns : List (List ℕ)). ns) (map stmt_names (bare_stmts xs))) h in
      each_append IsGoodBlock (blocks_in x.0) (each_of (map blocks_by (bare_stmts xs)) (bare_stmts xs)) (x.1 parts.0) (stmts_good xs parts.1)

  -- items of a `case` without what is known of their statements
  abbrev bare_cases : List (CaseLabel × InnerStmt) → List (CaseLabel × Stmt)
  bare_cases xs = map (λ (x : CaseLabel × InnerStmt). (x.0, x.1.0)) xs

  abbrev case_names : List (CaseLabel × Stmt) → List (List ℕ)
  case_names xs = flat_map (λ (x : CaseLabel × List (List ℕ)). x.1) (map (λ (x : CaseLabel × Stmt). (x.0, stmt_names x.1)) xs)

  abbrev case_blocks : List (CaseLabel × Stmt) → List NamedBlock
  case_blocks xs = each_of (map (λ (g : CaseLabel × (Stmt → List NamedBlock)). g.1) (map (λ (x : CaseLabel × Stmt). (x.0, blocks_by x.1)) xs)) (map (λ (x : CaseLabel × Stmt). x.1) xs)

  cases_good : (xs : List (CaseLabel × InnerStmt)) → AreGood (case_names (bare_cases xs)) → AreGoodBlocks (case_blocks (bare_cases xs))
  cases_good [] h = tt
  cases_good (x ∷ xs) h =
      let parts = halves good (stmt_names x.1.0) (case_names (bare_cases xs)) h in
      each_append IsGoodBlock (blocks_in x.1.0) (case_blocks (bare_cases xs)) (x.1.1 parts.0) (cases_good xs parts.1)

  -- the named blocks of an `if`
  if_good : (e : Box Expr Global) (x : Box InnerStmt Global) (o : Option (Box InnerStmt Global)) → AreGood (names_layered (bare_stmt (sf.If e x o))) → AreGoodBlocks (blocks_layered (bare_stmt (sf.If e x o)))
  if_good e x None h =
      each_append IsGoodBlock (blocks_in x.value.0) [] (x.value.1 (halves good (stmt_names x.value.0) [] h).0) tt
  if_good e x (Some z) h =
      let parts = halves good (stmt_names x.value.0) (stmt_names z.value.0) h in
      each_append IsGoodBlock (blocks_in x.value.0) (blocks_in z.value.0) (x.value.1 parts.0) (z.value.1 parts.1)

  named_good : (n : Vec ℕ Global) (ls : Vec LocalDeclaration Global) (xs : Vec InnerStmt Global) → AreGood (names_layered (bare_stmt (sf.Named n ls xs))) → AreGoodBlocks (blocks_layered (bare_stmt (sf.Named n ls xs)))
  named_good n ls xs h =
      let inner = flat_map (λ (ns : List (List ℕ)). ns) (map stmt_names (bare_stmts xs.items)) in
      let parts = and_parts (good n.items) (list_all good (flat_map local_names ls.items ++ inner)) h in
      let rest = halves good (flat_map local_names ls.items) inner parts.1 in
      (record { name = parts.0; locals = rest.0; statements = subst AreGood (names_joined (bare_stmts xs.items)) rest.1 }, tt)

  stmt_layer : (y : Stmt-F InnerStmt) → HasGoodBlocks (roll-Stmt (bare_stmt y))
  stmt_layer sf.Null = by_layer (bare_stmt sf.Null) (λ h. tt)
  stmt_layer (sf.Assign l e) = by_layer (bare_stmt (sf.Assign l e)) (λ h. tt)
  stmt_layer (sf.Later l v e) = by_layer (bare_stmt (sf.Later l v e)) (λ h. tt)
  stmt_layer (sf.Block xs) = by_layer (bare_stmt (sf.Block xs)) (λ h. stmts_good xs.items h)
  stmt_layer (sf.Named n ls xs) = by_layer (bare_stmt (sf.Named n ls xs)) (named_good n ls xs)
  stmt_layer (sf.If e x o) = by_layer (bare_stmt (sf.If e x o)) (if_good e x o)
  stmt_layer (sf.Case k e xs) = by_layer (bare_stmt (sf.Case k e xs)) (λ h. cases_good xs.items h)
  stmt_layer (sf.For k x) = by_layer (bare_stmt (sf.For k x)) (λ h. x.value.1 h)
  stmt_layer (sf.While e x) = by_layer (bare_stmt (sf.While e x)) (λ h. x.value.1 h)
  stmt_layer (sf.Repeat e x) = by_layer (bare_stmt (sf.Repeat e x)) (λ h. x.value.1 h)
  stmt_layer (sf.Forever x) = by_layer (bare_stmt (sf.Forever x)) (λ h. x.value.1 h)
  stmt_layer (sf.Delay v x) = by_layer (bare_stmt (sf.Delay v x)) (λ h. x.value.1 h)
  stmt_layer (sf.Event v x) = by_layer (bare_stmt (sf.Event v x)) (λ h. x.value.1 h)
  stmt_layer (sf.Print task xs) = by_layer (bare_stmt (sf.Print task xs)) (λ h. tt)
  stmt_layer (sf.Finish n) = by_layer (bare_stmt (sf.Finish n)) (λ h. tt)
  stmt_layer (sf.Dump task xs) = by_layer (bare_stmt (sf.Dump task xs)) (λ h. tt)

  stmt_settled : (x : Stmt-F Stmt) (y : Stmt-F InnerStmt) → bare_stmt y ≡ x → HasGoodBlocks (roll-Stmt x)
  stmt_settled x y is = subst (λ (u : Stmt-F Stmt). HasGoodBlocks (roll-Stmt u)) is (stmt_layer y)

  blocks_good : (x : Stmt) → HasGoodBlocks x
  blocks_good = ind-Stmt HasGoodBlocks stmt_settled

  among_good : (xs : List Stmt) → AreGood (flat_map stmt_names xs) → AreGoodBlocks (blocks_among xs)
  among_good [] h = tt
  among_good (x ∷ xs) h =
      let parts = halves good (stmt_names x) (flat_map stmt_names xs) h in
      each_append IsGoodBlock (blocks_in x) (blocks_among xs) (blocks_good x parts.0) (among_good xs parts.1)

  item_blocks_good : (x : Item) → AreGood (item_names x) → AreGoodBlocks (blocks_of x)
  item_blocks_good (i.Port f ns) h = tt
  item_blocks_good (i.Genvar ns) h = tt
  item_blocks_good (i.Wire f ds) h = tt
  item_blocks_good (i.Reg f ds) h = tt
  item_blocks_good (i.Integer ds) h = tt
  item_blocks_good (i.Parameter f xs) h = tt
  item_blocks_good (i.Localparam f xs) h = tt
  item_blocks_good (i.Instances n o xs) h = tt
  item_blocks_good (i.Assign xs) h = tt
  item_blocks_good (i.Initial x) h = blocks_good x h
  item_blocks_good (i.Always x) h = blocks_good x h

  -- ---- pieces

  -- the names that what stands behind `else` declares
  abbrev pub other_item_names : Option ModuleItem → List (List ℕ)
  other_item_names None = []
  other_item_names (Some x) = all_module_item_names x

  -- a piece whose names, with those of what it may generate, pass
  abbrev pub IsGoodPiece : Piece → Type 0
  IsGoodPiece (plain x) = AreGood (all_item_names x)
  IsGoodPiece (loop h x) = AreGood (all_module_item_names x)
  IsGoodPiece (choice e x o) = AreGood (all_module_item_names x) × AreGood (other_item_names o)
  IsGoodPiece (local x) = AreGood (local_names x)
  IsGoodPiece (inside b) = IsGoodBlock b
  IsGoodPiece (net n) = good n ≡ true

  abbrev pub AreGoodPieces : List Piece → Type 0
  AreGoodPieces = AllByRecursion IsGoodPiece

  abbrev HasGoodPieces : ModuleItem → Type 0
  HasGoodPieces x = AreGood (all_module_item_names x) → AreGoodPieces (pieces_in x)

  -- the names of one layer
  abbrev item_names_layered : ModuleItem-F ModuleItem → List (List ℕ)
  item_names_layered l = all_names_step (map-ModuleItem ModuleItem (List (List ℕ)) all_module_item_names l)

  names_of_layer : (l : ModuleItem-F ModuleItem) → AreGood (all_module_item_names (roll-ModuleItem l)) → AreGood (item_names_layered l)
  names_of_layer l h = subst AreGood (fold-roll-ModuleItem (List (List ℕ)) all_names_step l) h

  pieces_by_layer : (l : ModuleItem-F ModuleItem) → (AreGood (item_names_layered l) → AreGoodPieces (pieces_layered l)) → HasGoodPieces (roll-ModuleItem l)
  pieces_by_layer l f h = subst AreGoodPieces (sym (pieces_layer l (roll-ModuleItem l) refl)) (f (names_of_layer l h))

  abbrev InnerItem : Type 0
  InnerItem = (x : ModuleItem) × HasGoodPieces x

  abbrev bare_item : ModuleItem-F InnerItem → ModuleItem-F ModuleItem
  bare_item y = map-ModuleItem InnerItem ModuleItem (λ p. p.0) y

  abbrev bare_items : List InnerItem → List ModuleItem
  bare_items xs = map (λ (p : InnerItem). p.0) xs

  region_good : (xs : List InnerItem) → AreGood (flat_map (λ (ns : List (List ℕ)). ns) (map all_module_item_names (bare_items xs))) → AreGoodPieces (each_of (map pieces_by (bare_items xs)) (bare_items xs))
  region_good [] h = tt
  region_good (x ∷ xs) h =
      let parts = halves good (all_module_item_names x.0) (flat_map (λ (ns : List (List ℕ)). ns) (map all_module_item_names (bare_items xs))) h in
      each_append IsGoodPiece (pieces_in x.0) (each_of (map pieces_by (bare_items xs)) (bare_items xs)) (x.1 parts.0) (region_good xs parts.1)

  choice_good : (e : Expr) (x : Box InnerItem Global) (o : Option (Box InnerItem Global)) → AreGood (item_names_layered (bare_item (mf.If e x o))) → AreGoodPieces (pieces_layered (bare_item (mf.If e x o)))
  choice_good e x None h = (halves good (all_module_item_names x.value.0) [] h, tt)
  choice_good e x (Some z) h = (halves good (all_module_item_names x.value.0) (all_module_item_names z.value.0) h, tt)

  item_layer : (y : ModuleItem-F InnerItem) → HasGoodPieces (roll-ModuleItem (bare_item y))
  item_layer (mf.Plain x) = pieces_by_layer (bare_item (mf.Plain x)) (λ h. (h, tt))
  item_layer (mf.Region xs) = pieces_by_layer (bare_item (mf.Region xs)) (λ h. region_good xs.items h)
  item_layer (mf.For k x) = pieces_by_layer (bare_item (mf.For k x)) (λ h. (h, tt))
  item_layer (mf.If e x o) = pieces_by_layer (bare_item (mf.If e x o)) (choice_good e x o)
  item_layer mf.Null = pieces_by_layer (bare_item mf.Null) (λ h. tt)
  item_layer (mf.Block n xs) = pieces_by_layer (bare_item (mf.Block n xs)) (λ h. tt)

  item_settled : (x : ModuleItem-F ModuleItem) (y : ModuleItem-F InnerItem) → bare_item y ≡ x → HasGoodPieces (roll-ModuleItem x)
  item_settled x y is = subst (λ (u : ModuleItem-F ModuleItem). HasGoodPieces (roll-ModuleItem u)) is (item_layer y)

  item_pieces_good : (x : ModuleItem) → HasGoodPieces x
  item_pieces_good = ind-ModuleItem HasGoodPieces item_settled

  pub pieces_good : (xs : List ModuleItem) → AreGood (flat_map all_module_item_names xs) → AreGoodPieces (pieces_of xs)
  pieces_good [] h = tt
  pieces_good (x ∷ xs) h =
      let parts = halves good (all_module_item_names x) (flat_map all_module_item_names xs) h in
      each_append IsGoodPiece (pieces_in x) (pieces_of xs) (item_pieces_good x parts.0) (pieces_good xs parts.1)

  locals_good : (xs : List LocalDeclaration) → AreGood (flat_map local_names xs) → AreGoodPieces (map local xs)
  locals_good [] h = tt
  locals_good (x ∷ xs) h = let parts = halves good (local_names x) (flat_map local_names xs) h in (parts.0, locals_good xs parts.1)

  insides_good : (bs : List NamedBlock) → AreGoodBlocks bs → AreGoodPieces (map inside bs)
  insides_good [] h = tt
  insides_good (b ∷ bs) h = (h.0, insides_good bs h.1)

  pub block_pieces_good : (b : NamedBlock) → IsGoodBlock b → AreGoodPieces (block_pieces b)
  block_pieces_good b h =
      each_append IsGoodPiece (map local b.locals) (map inside (blocks_among b.statements)) (locals_good b.locals h.locals) (insides_good (blocks_among b.statements) (among_good b.statements h.statements))

  -- ---- what constructs generate

  abbrev IsGoodContent : Content → Type 0
  IsGoodContent nothing = Unit {0}
  IsGoodContent (block n xs) = HasGood good n × AreGood (flat_map all_module_item_names xs)

  -- an item that is a block of its own
  alone_good : (x : ModuleItem) → AreGood (all_module_item_names x) → IsGoodContent (block None (x ∷ []))
  alone_good x h = (tt, both good (all_module_item_names x) [] h refl)

  names_of_items : (xs : List ModuleItem) → flat_map (λ (ns : List (List ℕ)). ns) (map all_module_item_names xs) ≡ flat_map all_module_item_names xs
  names_of_items [] = refl
  names_of_items (x ∷ xs) = ap (λ (ns : List (List ℕ)). all_module_item_names x ++ ns) (names_of_items xs)

  abbrev HasGoodContent : ModuleItem → Type 0
  HasGoodContent x = AreGood (all_module_item_names x) → IsGoodContent (content_of x)

  block_good : (n : Option (Vec ℕ Global)) (xs : Vec ModuleItem Global) → AreGood (item_names_layered (mf.Block n xs)) → IsGoodContent (content_step (mf.Block n xs) (roll-ModuleItem (mf.Block n xs)))
  block_good None xs h = (tt, subst AreGood (names_of_items xs.items) h)
  block_good (Some n) xs h =
      let parts = halves good (n.items ∷ []) (flat_map (λ (ns : List (List ℕ)). ns) (map all_module_item_names xs.items)) h in
      ((and_parts (good n.items) true parts.0).0, subst AreGood (names_of_items xs.items) parts.1)

  layer_content : (l : ModuleItem-F ModuleItem) → AreGood (all_module_item_names (roll-ModuleItem l)) → IsGoodContent (content_step l (roll-ModuleItem l))
  layer_content (mf.Plain x) h = alone_good (roll-ModuleItem (mf.Plain x)) h
  layer_content (mf.Region xs) h = alone_good (roll-ModuleItem (mf.Region xs)) h
  layer_content (mf.For k x) h = alone_good (roll-ModuleItem (mf.For k x)) h
  layer_content (mf.If e x o) h = alone_good (roll-ModuleItem (mf.If e x o)) h
  layer_content mf.Null h = tt
  layer_content (mf.Block n xs) h = block_good n xs (names_of_layer (mf.Block n xs) h)

  content_good : (x : ModuleItem) → HasGoodContent x
  content_good x = subst HasGoodContent (roll-out-ModuleItem x) (λ h. subst IsGoodContent (sym (content_layer (out-ModuleItem x) (roll-ModuleItem (out-ModuleItem x)) refl)) (layer_content (out-ModuleItem x) h))

  -- ---- branches

  abbrev IsGoodTaken : Taken → Type 0
  IsGoodTaken (takes x) = IsGoodContent x
  IsGoodTaken (refused w) = Unit {0}

  decided_good : (env : Environment) (e : Expr) (x y : Taken) → IsGoodTaken x → IsGoodTaken y → IsGoodTaken (decided env e x y)
  decided_good env e x y h k = by (any_fault (condition_fault env e)) (holds env e)
    where
      by : (a b : Bool) → IsGoodTaken (cond a (refused (condition_fault env e)) (cond b x y))
      by true b = tt
      by false true = h
      by false false = k

  module _ (env : Environment) where
    abbrev HasGoodTaken : ModuleItem → Type 0
    HasGoodTaken x = AreGood (all_module_item_names x) → IsGoodTaken (branch_taken env x)

    taken_by_layer : (l : ModuleItem-F ModuleItem) → (AreGood (all_module_item_names (roll-ModuleItem l)) → IsGoodTaken (taken_layered env l (roll-ModuleItem l))) → HasGoodTaken (roll-ModuleItem l)
    taken_by_layer l f h = subst IsGoodTaken (sym (taken_layer env l (roll-ModuleItem l) refl)) (f h)

    abbrev InnerBranch : Type 0
    InnerBranch = (x : ModuleItem) × HasGoodTaken x

    abbrev bare_branch : ModuleItem-F InnerBranch → ModuleItem-F ModuleItem
    bare_branch y = map-ModuleItem InnerBranch ModuleItem (λ p. p.0) y

    if_taken : (e : Expr) (x : Box InnerBranch Global) (o : Option (Box InnerBranch Global)) → AreGood (item_names_layered (bare_branch (mf.If e x o))) → IsGoodTaken (taken_layered env (bare_branch (mf.If e x o)) (roll-ModuleItem (bare_branch (mf.If e x o))))
    if_taken e x None h =
        decided_good env e (branch_taken env x.value.0) (takes nothing) (x.value.1 (halves good (all_module_item_names x.value.0) [] h).0) tt
    if_taken e x (Some z) h =
        let parts = halves good (all_module_item_names x.value.0) (all_module_item_names z.value.0) h in
        decided_good env e (branch_taken env x.value.0) (branch_taken env z.value.0) (x.value.1 parts.0) (z.value.1 parts.1)

    branch_layer : (y : ModuleItem-F InnerBranch) → HasGoodTaken (roll-ModuleItem (bare_branch y))
    branch_layer (mf.Plain x) = taken_by_layer (bare_branch (mf.Plain x)) (layer_content (bare_branch (mf.Plain x)))
    branch_layer (mf.Region xs) = taken_by_layer (bare_branch (mf.Region xs)) (layer_content (bare_branch (mf.Region xs)))
    branch_layer (mf.For k x) = taken_by_layer (bare_branch (mf.For k x)) (layer_content (bare_branch (mf.For k x)))
    branch_layer (mf.If e x o) = taken_by_layer (bare_branch (mf.If e x o)) (λ h. if_taken e x o (names_of_layer (bare_branch (mf.If e x o)) h))
    branch_layer mf.Null = taken_by_layer (bare_branch mf.Null) (λ h. tt)
    branch_layer (mf.Block n xs) = taken_by_layer (bare_branch (mf.Block n xs)) (layer_content (bare_branch (mf.Block n xs)))

    branch_settled : (x : ModuleItem-F ModuleItem) (y : ModuleItem-F InnerBranch) → bare_branch y ≡ x → HasGoodTaken (roll-ModuleItem x)
    branch_settled x y is = subst (λ (u : ModuleItem-F ModuleItem). HasGoodTaken (roll-ModuleItem u)) is (branch_layer y)

    branch_good : (x : ModuleItem) → HasGoodTaken x
    branch_good = ind-ModuleItem HasGoodTaken branch_settled

    other_good : (o : Option ModuleItem) → AreGood (other_item_names o) → IsGoodTaken (other_taken env o)
    other_good None h = tt
    other_good (Some x) h = branch_good x h

  -- ---- implicit nets

  new_good : (known : List ℕ → Bool) (before ns : List (List ℕ)) → AreGood ns → AreGoodPieces (map net (new_among known before ns))
  new_good known before [] h = tt
  new_good known before (n ∷ ns) h =
      let parts = and_parts (good n) (list_all good ns) h in
      let rest = new_among known (before ++ n ∷ []) ns in
      let others = new_good known (before ++ n ∷ []) ns parts.1 in
      cond_both (known n || list_any (bytes_eq n) before) rest (n ∷ rest) (λ z. AreGoodPieces (map net z)) (λ e. others) (λ e. (parts.0, others))

  used_good : (p : Piece) → IsGoodPiece p → AreGood (names_used p)
  used_good (plain x) h = (halves good (item_names x) (names_used_by x) h).1
  used_good (loop l x) h = refl
  used_good (choice e x o) h = refl
  used_good (local x) h = refl
  used_good (inside b) h = refl
  used_good (net n) h = refl

  with_nets_good : (known : List ℕ → Bool) (before : List (List ℕ)) (ps : List Piece) → AreGoodPieces ps → AreGoodPieces (with_nets known before ps)
  with_nets_good known before [] h = tt
  with_nets_good known before (p ∷ ps) h =
      each_append IsGoodPiece (map net (new_among known before (names_used p))) (p ∷ with_nets known (before ++ names_used p) ps)
      (new_good known before (names_used p) (used_good p h.0)) (h.0, with_nets_good known (before ++ names_used p) ps h.1)

  -- the implicit nets among pieces have names that pass
  pub nets_good : (nets : Bool) (text : Bindings) (around : List ℕ → Sight) (ps : List Piece) → AreGoodPieces ps → AreGoodPieces (pieces_with_nets nets text around ps)
  nets_good false text around ps h = h
  nets_good true text around ps h = with_nets_good (is_known text around) [] ps h

  -- ---- what is opened

  -- what opens a scope has names that pass; a block of a turn has the turn's number
  abbrev pub IsGoodInner : Inner → Type 0
  IsGoodInner (instance u) = good u.name ≡ true
  IsGoodInner (generated place n cs xs) = (good n.name ≡ true) × FitsTurn n.turn × AreGood (flat_map all_module_item_names xs)
  IsGoodInner (named b) = IsGoodBlock b

  abbrev pub AreGoodInner : List Inner → Type 0
  AreGoodInner = AllByRecursion IsGoodInner

  uses_good : (n : List ℕ) (o : Option Connections) (xs : List Instance) → AreGood (instance_names xs) → AreGoodInner (map instance (map (use_of n o) xs))
  uses_good n o [] h = tt
  uses_good n o (x ∷ xs) h = let parts = and_parts (good x.name.items) (list_all good (instance_names xs)) h in (parts.0, uses_good n o xs parts.1)

  item_uses_good : (x : Item) → AreGood (item_names x) → AreGoodInner (map instance (uses_by_item x))
  item_uses_good (i.Port f ns) h = tt
  item_uses_good (i.Genvar ns) h = tt
  item_uses_good (i.Wire f ds) h = tt
  item_uses_good (i.Reg f ds) h = tt
  item_uses_good (i.Integer ds) h = tt
  item_uses_good (i.Parameter f xs) h = tt
  item_uses_good (i.Localparam f xs) h = tt
  item_uses_good (i.Instances n o xs) h = uses_good n.items o xs.items h
  item_uses_good (i.Assign xs) h = tt
  item_uses_good (i.Initial x) h = tt
  item_uses_good (i.Always x) h = tt

  nameds_good : (bs : List NamedBlock) → AreGoodBlocks bs → AreGoodInner (map named bs)
  nameds_good [] h = tt
  nameds_good (b ∷ bs) h = (h.0, nameds_good bs h.1)

  module _ (numbered : NumberedPass good) where
    generates_good : (place : ℕ) (n : Option (List ℕ)) (turn : Option ℤ) (cs : List (List ℕ × Const)) (xs : List ModuleItem) → HasGood good n → FitsTurn turn → AreGood (flat_map all_module_item_names xs) → AreGoodInner (generates place n turn cs xs)
    generates_good place None turn cs xs h f k = tt
    generates_good place (Some n) turn cs xs h f k = ((h, f, k), tt)

    content_inner_good : (place : ℕ) (names : List (List ℕ)) (k : ℕ) (turn : Option ℤ) (cs : List (List ℕ × Const)) (x : Content) → FitsTurn turn → IsGoodContent x → AreGoodInner (content_inner place names k turn cs x)
    content_inner_good place names k turn cs nothing f h = tt
    content_inner_good place names k turn cs (block n xs) f h =
        generates_good place (name_of_block names k n) turn cs xs (block_name_good good numbered names k n h.0) f h.1

    turns_inner_good : (place : ℕ) (names : List (List ℕ)) (k : ℕ) (n : List ℕ) (x : Content) (cs : List Const) → AllByRecursion IsTurn cs → IsGoodContent x → AreGoodInner (turns_inner place names k n x cs)
    turns_inner_good place names k n x [] f h = tt
    turns_inner_good place names k n x (c ∷ cs) f h =
        each_append IsGoodInner (content_inner place names k (genvar_number c) ((n, c) ∷ []) x) (turns_inner place names k n x cs)
        (content_inner_good place names k (genvar_number c) ((n, c) ∷ []) x f.0.1 h) (turns_inner_good place names k n x cs f.1 h)

    loop_inner_good : (place : ℕ) (names : List (List ℕ)) (k : ℕ) (n : List ℕ) (x : Content) (t : Turns) → ((cs : List Const) → t ≡ turns cs → AllByRecursion IsTurn cs) → IsGoodContent x → AreGoodInner (loop_inner place names k n x t)
    loop_inner_good place names k n x (turns cs) f h = turns_inner_good place names k n x cs (f cs refl) h
    loop_inner_good place names k n x (faulty w) f h = tt
    loop_inner_good place names k n x endless f h = tt

    choice_inner_good : (place : ℕ) (names : List (List ℕ)) (k : ℕ) (t : Taken) → IsGoodTaken t → AreGoodInner (choice_inner place names k t)
    choice_inner_good place names k (takes x) h = content_inner_good place names k None [] x tt h
    choice_inner_good place names k (refused w) h = tt

    piece_inner_good : (place : ℕ) (env : Environment) (names : List (List ℕ)) (k : ℕ) (p : Piece) → IsGoodPiece p → AreGoodInner (inner_in place env names k p)
    piece_inner_good place env names k (plain x) h =
        let own = (halves good (item_names x) (names_used_by x) h).0 in
        each_append IsGoodInner (map instance (uses_by_item x)) (map named (blocks_of x)) (item_uses_good x own) (nameds_good (blocks_of x) (item_blocks_good x own))
    piece_inner_good place env names k (loop l x) h =
        loop_inner_good place names k l.name.items (content_of x) (turns_of env l) (λ cs e. recursion_from_All IsTurn cs (turns_differ env l cs e).0)
        (content_good x h)
    piece_inner_good place env names k (choice e x o) h =
        choice_inner_good place names k (chosen env e x o) (decided_good env e (branch_taken env x) (other_taken env o) (branch_good env x h.0) (other_good env o h.1))
    piece_inner_good place env names k (local x) h = tt
    piece_inner_good place env names k (inside b) h = (h, tt)
    piece_inner_good place env names k (net n) h = tt

    -- what pieces open has names that pass
    pub inner_good : (place : ℕ) (env : Environment) (names : List (List ℕ)) (k : ℕ) (ps : List Piece) → AreGoodPieces ps → AreGoodInner (inner_from place env names k ps)
    inner_good place env names k [] h = tt
    inner_good place env names k (p ∷ ps) h =
        each_append IsGoodInner (inner_in place env names k p) (inner_from (suc place) env names (after_piece k p) ps) (piece_inner_good place env names k p h.0) (inner_good (suc place) env names (after_piece k p) ps h.1)
