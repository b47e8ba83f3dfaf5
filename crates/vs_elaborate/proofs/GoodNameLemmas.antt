-- The names that module items declare, and those that they use where an undeclared one is a net.
use Rattle.std.proofs.Common.{◌≡◌, Bool, true, List, [], ◌∷◌, ◌++◌, Option, Some, None, ℕ, map, refl, sym, subst}
use Rattle.std.specs.List.{list_all, flat_map}
use Rattle.std.specs.declared.boxed.Box.{Box}
use Rattle.std.specs.declared.alloc.Global.{Global}
use Rattle.vs_syntax.specs.declared.tree.Expr.{Expr}
use Rattle.vs_syntax.specs.declared.tree.Item.{Item}
use Rattle.vs_syntax.specs.declared.tree.ModuleItem.{ModuleItem, ModuleItem-F, roll-ModuleItem, ind-ModuleItem, map-ModuleItem, fold-ModuleItem, fold-roll-ModuleItem}
use Rattle.vs_syntax.specs.declared.tree.ModuleItem.TheOpen as mf
use Rattle.vs_syntax.specs.SourceNames.{else_names, item_names, block_names, module_item_names_step, module_item_names}
use Rattle.vs_scopes.specs.Uses.{names_used_by, used_step, names_used_in}
use Rattle.vs_elaborate.proofs.GoodTextLemmas.{both, halves}

-- the names that an item declares or uses so
abbrev pub all_item_names : Item → List (List ℕ)
all_item_names x = item_names x ++ names_used_by x

-- one layer of a module item: those names, with those of each inner one in its place
abbrev pub all_names_step : ModuleItem-F (List (List ℕ)) → List (List ℕ)
all_names_step (mf.Plain x) = all_item_names x
all_names_step (mf.Region xs) = flat_map (λ ns. ns) xs.items
all_names_step (mf.For h x) = x.value
all_names_step (mf.If e x o) = x.value ++ else_names o
all_names_step mf.Null = []
all_names_step (mf.Block n xs) = block_names n ++ flat_map (λ ns. ns) xs.items

-- the names that a module item declares or uses so
abbrev pub all_module_item_names : ModuleItem → List (List ℕ)
all_module_item_names = fold-ModuleItem (List (List ℕ)) all_names_step

-- ---- where the names of both sorts pass, all do

module _ (good : List ℕ → Bool) where
  -- names that pass
  abbrev AreGood : List (List ℕ) → Type 0
  AreGood ns = list_all good ns ≡ true

  abbrev Joins : ModuleItem → Type 0
  Joins x = AreGood (module_item_names x) → AreGood (names_used_in x) → AreGood (all_module_item_names x)

  -- the names of one layer, of each sort
  abbrev declared_layer : ModuleItem-F ModuleItem → List (List ℕ)
  declared_layer l = module_item_names_step (map-ModuleItem ModuleItem (List (List ℕ)) module_item_names l)

  abbrev used_layer : ModuleItem-F ModuleItem → List (List ℕ)
  used_layer l = used_step (map-ModuleItem ModuleItem (List (List ℕ)) names_used_in l)

  abbrev all_layer : ModuleItem-F ModuleItem → List (List ℕ)
  all_layer l = all_names_step (map-ModuleItem ModuleItem (List (List ℕ)) all_module_item_names l)

  joins_by_layer : (l : ModuleItem-F ModuleItem) → (AreGood (declared_layer l) → AreGood (used_layer l) → AreGood (all_layer l)) → Joins (roll-ModuleItem l)
  joins_by_layer l f h k =
      subst AreGood (sym (fold-roll-ModuleItem (List (List ℕ)) all_names_step l))
      (f (subst AreGood (fold-roll-ModuleItem (List (List ℕ)) module_item_names_step l) h) (subst AreGood (fold-roll-ModuleItem (List (List ℕ)) used_step l) k))

  abbrev Joined : Type 0
  Joined = (x : ModuleItem) × Joins x

  abbrev bare_item : ModuleItem-F Joined → ModuleItem-F ModuleItem
  bare_item y = map-ModuleItem Joined ModuleItem (λ p. p.0) y

  abbrev bare_items : List Joined → List ModuleItem
  bare_items xs = map (λ (p : Joined). p.0) xs

  -- the names of several, one behind the other
  abbrev joined_names : List (List (List ℕ)) → List (List ℕ)
  joined_names xs = flat_map (λ (ns : List (List ℕ)). ns) xs

  items_join : (xs : List Joined) → AreGood (joined_names (map module_item_names (bare_items xs))) → AreGood (joined_names (map names_used_in (bare_items xs))) →
      AreGood (joined_names (map all_module_item_names (bare_items xs)))
  items_join [] h k = refl
  items_join (x ∷ xs) h k =
      let declared = halves good (module_item_names x.0) (joined_names (map module_item_names (bare_items xs))) h in
      let used = halves good (names_used_in x.0) (joined_names (map names_used_in (bare_items xs))) k in
      both good (all_module_item_names x.0) (joined_names (map all_module_item_names (bare_items xs))) (x.1 declared.0 used.0) (items_join xs declared.1 used.1)

  if_joins : (e : Expr) (x : Box Joined Global) (o : Option (Box Joined Global)) → AreGood (declared_layer (bare_item (mf.If e x o))) → AreGood (used_layer (bare_item (mf.If e x o))) →
      AreGood (all_layer (bare_item (mf.If e x o)))
  if_joins e x None h k =
      let declared = halves good (module_item_names x.value.0) [] h in
      let used = halves good (names_used_in x.value.0) [] k in
      both good (all_module_item_names x.value.0) [] (x.value.1 declared.0 used.0) refl
  if_joins e x (Some z) h k =
      let declared = halves good (module_item_names x.value.0) (module_item_names z.value.0) h in
      let used = halves good (names_used_in x.value.0) (names_used_in z.value.0) k in
      both good (all_module_item_names x.value.0) (all_module_item_names z.value.0) (x.value.1 declared.0 used.0) (z.value.1 declared.1 used.1)

  layer_joins : (y : ModuleItem-F Joined) → Joins (roll-ModuleItem (bare_item y))
  layer_joins (mf.Plain x) = joins_by_layer (bare_item (mf.Plain x)) (λ h k. both good (item_names x) (names_used_by x) h k)
  layer_joins (mf.Region xs) = joins_by_layer (bare_item (mf.Region xs)) (λ h k. items_join xs.items h k)
  layer_joins (mf.For g x) = joins_by_layer (bare_item (mf.For g x)) (λ h k. x.value.1 h k)
  layer_joins (mf.If e x o) = joins_by_layer (bare_item (mf.If e x o)) (if_joins e x o)
  layer_joins mf.Null = joins_by_layer (bare_item mf.Null) (λ h k. refl)
  layer_joins (mf.Block n xs) = joins_by_layer (bare_item (mf.Block n xs)) (λ h k.
      (let parts = halves good (block_names n) (joined_names (map module_item_names (bare_items xs.items))) h in
      both good (block_names n) (joined_names (map all_module_item_names (bare_items xs.items))) parts.0 (items_join xs.items parts.1 k)))

  settled : (x : ModuleItem-F ModuleItem) (y : ModuleItem-F Joined) → bare_item y ≡ x → Joins (roll-ModuleItem x)
  settled x y is = subst (λ (u : ModuleItem-F ModuleItem). Joins (roll-ModuleItem u)) is (layer_joins y)

  one_joins : (x : ModuleItem) → Joins x
  one_joins = ind-ModuleItem Joins settled

  pub all_join : (xs : List ModuleItem) → AreGood (flat_map module_item_names xs) → AreGood (flat_map names_used_in xs) → AreGood (flat_map all_module_item_names xs)
  all_join [] h k = refl
  all_join (x ∷ xs) h k =
      let declared = halves good (module_item_names x) (flat_map module_item_names xs) h in
      let used = halves good (names_used_in x) (flat_map names_used_in xs) k in
      both good (all_module_item_names x) (flat_map all_module_item_names xs) (one_joins x declared.0 used.0) (all_join xs declared.1 used.1)
