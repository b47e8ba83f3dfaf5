-- The names that a source uses are tokens of its text.
use Rattle.std.proofs.Common.{◌≡◌, Bool, true, false, true≢false, ◌&&◌, List, [], ◌∷◌, ◌++◌, Option, None, Some, map, refl, sym, ◌∙◌, ap, subst, append_assoc}
use Rattle.std.specs.List.{flat_map, list_all}
use Rattle.std.proofs.lemmas.List.Folds.{list_all-append}
use Rattle.std.specs.declared.boxed.Box.{Box}
use Rattle.std.specs.declared.alloc.Global.{Global}
use Rattle.vs_syntax.specs.vs_logic4.specs.declared.operators.Binary.{Binary}
use Rattle.vs_syntax.specs.vs_lexer.specs.declared.token.Directive.{Directive}
use Rattle.vs_syntax.specs.declared.tree.Connection.{Connection}
use Rattle.vs_syntax.specs.declared.tree.Connections.{Connections}
use Rattle.vs_syntax.specs.declared.tree.Connections.TheVariants.{Ordered, Named}
use Rattle.vs_syntax.specs.declared.tree.Expr.{Expr, Expr-F, roll-Expr, ind-Expr, map-Expr, fold-roll-Expr}
use Rattle.vs_syntax.specs.declared.tree.Expr.TheOpen as e
use Rattle.vs_syntax.specs.declared.tree.Expr.TheShapes.{former-Expr-Select-1-at-5}
use Rattle.vs_syntax.specs.declared.tree.Instance.{Instance}
use Rattle.vs_syntax.specs.declared.tree.Item.{Item}
use Rattle.vs_syntax.specs.declared.tree.Item.TheVariants as i
use Rattle.vs_syntax.specs.declared.tree.Left.{Left, Left-F, roll-Left, ind-Left, map-Left, fold-roll-Left}
use Rattle.vs_syntax.specs.declared.tree.Left.TheOpen as f
use Rattle.vs_syntax.specs.declared.tree.Module.{Module}
use Rattle.vs_syntax.specs.declared.tree.ModuleItem.{ModuleItem, ModuleItem-F, roll-ModuleItem, ind-ModuleItem, map-ModuleItem, fold-roll-ModuleItem}
use Rattle.vs_syntax.specs.declared.tree.ModuleItem.TheOpen as y
use Rattle.vs_syntax.specs.declared.tree.ModuleItem.TheShapes.{former-ModuleItem-If-2-at-2}
use Rattle.vs_syntax.specs.declared.tree.NetAssignment.{NetAssignment}
use Rattle.vs_syntax.specs.declared.tree.PartSelect.{PartSelect}
use Rattle.vs_syntax.specs.Derivation.{Tree, leaf, both, down, tokens}
use Rattle.vs_syntax.specs.SourceNames.{else_names}
use Rattle.vs_syntax.specs.Symbols.{Symbol, a_name}
use Rattle.vs_syntax.specs.Views.{row_of, commas_tree, comma_list_tree, link_tree, head_of, arms_of, choice_tree, select_tree, some_tree, expr_step, expr_tree, chosen_tree, left_step, left_tree, net_assignment_tree, end_tree, connection_tree, connections_tree, instance_tree, item_tree, else_tree, module_item_step, module_item_tree, module_tree, directive_tree, directed_trees}
use Rattle.vs_scopes.specs.Uses.{Bytes, select_names, expr_names_step, expr_names, select_expr_names, left_names_step, left_names, end_names, connection_names, connections_names, instance_names, assignment_names, names_used_by, used_step, names_used_in, names_used_among, UsedAreTokens}
use Rattle.std.proofs.lemmas.Bool.{and_from as and_of}
use Rattle.vs_syntax.specs.vs_logic4.proofs.Basics.{and_left as first_of, and_right as second_of}

-- ---- trees

-- whether a test holds of each token of a tree
abbrev holds : (Symbol → Bool) → Tree → Bool
holds p x = list_all p (tokens x)

-- a tree of which a test holds of each token
record Fine (p : Symbol → Bool) (x : Tree) : Type 0 where
  is : holds p x ≡ true

left : (p : Symbol → Bool) (x y : Tree) → Fine p (both x y) → Fine p x
left p x y h = record { is = first_of (holds p x) (holds p y) (sym (list_all-append p (tokens x) (tokens y)) ∙ h.is) }

right : (p : Symbol → Bool) (x y : Tree) → Fine p (both x y) → Fine p y
right p x y h = record { is = second_of (holds p x) (holds p y) (sym (list_all-append p (tokens x) (tokens y)) ∙ h.is) }

-- a tree in another one
data Within : Tree → Tree → Type 0 where
  itself : {x : Tree} → Within x x
  in_left : {x y z : Tree} → Within x z → Within (both x y) z
  in_right : {x y z : Tree} → Within y z → Within (both x y) z
  in_down : {x z : Tree} → Within x z → Within (down x) z

within : {p : Symbol → Bool} {x z : Tree} → Within x z → Fine p x → Fine p z
within itself h = h
within {p = p} (in_left {x = x} {y = y} w) h = within w (left p x y h)
within {p = p} (in_right {x = x} {y = y} w) h = within w (right p x y h)
within (in_down w) h = within w (record { is = h.is })

-- names of each of which a test holds
abbrev named : (Symbol → Bool) → Bytes → Bool
named p ns = list_all (λ n. p (a_name n)) ns

-- two lists of names, one behind the other
both_named : (p : Symbol → Bool) (ms ns : Bytes) → named p ms ≡ true → named p ns ≡ true → named p (ms ++ ns) ≡ true
both_named p ms ns h k = list_all-append (λ n. p (a_name n)) ms ns ∙ and_of (named p ms) (named p ns) h k

-- ---- parts one after another

module _ {A : Type 0} (p : Symbol → Bool) (tree : A → Tree) (names : A → Bytes) (each : (x : A) → Fine p (tree x) → named p (names x) ≡ true) where
  row_named : (xs : List A) → Fine p (row_of (map tree xs)) → named p (flat_map names xs) ≡ true
  row_named [] h = refl
  row_named (x ∷ xs) h = both_named p (names x) (flat_map names xs) (each x (within (in_left itself) h)) (row_named xs (within (in_right itself) h))

  commas_named : (xs : List A) → Fine p (commas_tree (map tree xs)) → named p (flat_map names xs) ≡ true
  commas_named [] h = refl
  commas_named (x ∷ xs) h =
      both_named p (names x) (flat_map names xs) (each x (within (in_left (in_right itself)) h)) (commas_named xs (within (in_right itself) h))

  listed_named : (xs : List A) → Fine p (comma_list_tree (map tree xs)) → named p (flat_map names xs) ≡ true
  listed_named [] h = refl
  listed_named (x ∷ xs) h =
      both_named p (names x) (flat_map names xs) (each x (within (in_left itself) h)) (commas_named xs (within (in_right (in_left itself)) h))

-- ---- expressions

module _ (p : Symbol → Bool) where
  -- an expression of which the tree holds its names
  abbrev Held : Expr → Type 0
  Held x = Fine p (expr_tree x) → named p (expr_names x) ≡ true

  abbrev Inner : Type 0
  Inner = (x : Expr) × Held x

  abbrev bare : Expr-F Inner → Expr-F Expr
  bare x = map-Expr Inner Expr (λ q. q.0) x

  abbrev layer : Expr-F Expr → Tree
  layer x = expr_step (map-Expr Expr Tree expr_tree x)

  abbrev layer_names : Expr-F Expr → Bytes
  layer_names x = expr_names_step (map-Expr Expr Bytes expr_names x)

  -- an expression of a list, as a tree, and its names
  abbrev inner_tree : Inner → Tree
  inner_tree x = expr_tree x.0

  abbrev inner_names : Inner → Bytes
  inner_names x = expr_names x.0

  parts_hold : (xs : List Inner) → Fine p (commas_tree (map expr_tree (map (λ q. q.0) xs))) → named p (flat_map (λ ns. ns) (map expr_names (map (λ q. q.0) xs))) ≡ true
  parts_hold [] h = refl
  parts_hold (x ∷ xs) h =
      both_named p (expr_names x.0) _ (x.1 (within (in_left (in_right itself)) h)) (parts_hold xs (within (in_right itself) h))

  -- operands behind their operators, as trees, and their names
  abbrev bare_links : List (Binary × Inner) → List (Binary × Expr)
  bare_links ls = map (λ l. (l.0, l.1.0)) ls

  links_hold : (ls : List (Binary × Inner)) → Fine p (row_of (map link_tree (map (λ (l : Binary × Expr). (l.0, expr_tree l.1)) (bare_links ls)))) →
      named p (flat_map (λ (l : Binary × Bytes). l.1) (map (λ (l : Binary × Expr). (l.0, expr_names l.1)) (bare_links ls))) ≡ true
  links_hold [] h = refl
  links_hold (l ∷ ls) h = both_named p (expr_names l.1.0) _ (l.1.1 (within (in_left (in_right itself)) h)) (links_hold ls (within (in_right itself) h))

  -- conditions with their operands, as trees, and their names
  abbrev bare_pairs : List (Inner × Inner) → List (Expr × Expr)
  bare_pairs ps = map (λ q. (q.0.0, q.1.0)) ps

  abbrev pair_trees : List (Inner × Inner) → List (Tree × Tree)
  pair_trees ps = map (λ (q : Expr × Expr). (expr_tree q.0, expr_tree q.1)) (bare_pairs ps)

  abbrev pair_names : List (Inner × Inner) → List (Bytes × Bytes)
  pair_names ps = map (λ (q : Expr × Expr). (expr_names q.0, expr_names q.1)) (bare_pairs ps)

  arms_hold : (ps : List (Inner × Inner)) (x : Inner) → Fine p (head_of (pair_trees ps) (expr_tree x.0)) → Fine p (row_of (arms_of (pair_trees ps) (expr_tree x.0))) →
      (named p (flat_map (λ (q : Bytes × Bytes). q.0 ++ q.1) (pair_names ps)) ≡ true) × (named p (expr_names x.0) ≡ true)
  arms_hold [] x h k = (refl, x.1 h)
  arms_hold (q ∷ ps) x h k =
      let rest = arms_hold ps x (within (in_left (in_right (in_right (in_right itself)))) k) (within (in_right itself) k) in
      let first = both_named p (expr_names q.0.0) (expr_names q.1.0) (q.0.1 h) (q.1.1 (within (in_left (in_right (in_left itself))) k)) in
      (both_named p (expr_names q.0.0 ++ expr_names q.1.0) (flat_map (λ (r : Bytes × Bytes). r.0 ++ r.1) (pair_names ps)) first rest.0, rest.1)

  choice_holds : (ps : List (Inner × Inner)) (x : Inner) → Fine p (choice_tree (pair_trees ps) (expr_tree x.0)) → named p (flat_map (λ (q : Bytes × Bytes). q.0 ++ q.1) (pair_names ps) ++ expr_names x.0) ≡ true
  choice_holds [] x h = x.1 (within (in_left itself) h)
  choice_holds (q ∷ ps) x h =
      let names = arms_hold (q ∷ ps) x (within (in_down (in_left itself)) h) (within (in_down (in_right itself)) h) in
      both_named p (flat_map (λ (r : Bytes × Bytes). r.0 ++ r.1) (pair_names (q ∷ ps))) (expr_names x.0) names.0 names.1

  -- selects, as trees, and their names
  abbrev bare_selects : List (Inner × Option (PartSelect × Inner)) → List (Expr × Option (PartSelect × Expr))
  bare_selects ss = map (former-Expr-Select-1-at-5.map Inner Expr (λ q. q.0)) ss

  abbrev select_trees : List (Inner × Option (PartSelect × Inner)) → List Tree
  select_trees ss = map select_tree (map (former-Expr-Select-1-at-5.map Expr Tree expr_tree) (bare_selects ss))

  abbrev selects_names : List (Inner × Option (PartSelect × Inner)) → Bytes
  selects_names ss = flat_map select_names (map (former-Expr-Select-1-at-5.map Expr Bytes expr_names) (bare_selects ss))

  selects_hold : (ss : List (Inner × Option (PartSelect × Inner))) → Fine p (row_of (select_trees ss)) → named p (selects_names ss) ≡ true
  selects_hold [] h = refl
  selects_hold ((x, None) ∷ ss) h =
      both_named p (expr_names x.0 ++ []) (selects_names ss) (both_named p (expr_names x.0) [] (x.1 (within (in_left (in_right (in_left itself))) h)) refl) (selects_hold ss (within (in_right itself) h))
  selects_hold ((x, Some (how, z)) ∷ ss) h =
      both_named p (expr_names x.0 ++ expr_names z.0) (selects_names ss)
      (both_named p (expr_names x.0) (expr_names z.0) (x.1 (within (in_left (in_right (in_left itself))) h)) (z.1 (within (in_left (in_right (in_right (in_left (in_right itself))))) h)))
      (selects_hold ss (within (in_right itself) h))

  some_hold : (ss : List (Inner × Option (PartSelect × Inner))) → Fine p (some_tree (select_trees ss)) → named p (selects_names ss) ≡ true
  some_hold [] h = refl
  some_hold (s ∷ ss) h = selects_hold (s ∷ ss) (record { is = h.is })

  layer_holds : (x : Expr-F Inner) → Fine p (layer (bare x)) → named p (layer_names (bare x)) ≡ true
  layer_holds (e.Number l) h = refl
  layer_holds (e.Name n) h = h.is
  layer_holds (e.Select n ss) h =
      let own : Fine p (leaf (a_name n.items)) = within (in_down (in_left itself)) h in
      and_of (p (a_name n.items)) _ (first_of (p (a_name n.items)) true own.is) (some_hold ss.items (within (in_down (in_right itself)) h))
  layer_holds (e.Group x) h = x.value.1 (within (in_down (in_right (in_left itself))) h)
  layer_holds (e.Unary op x) h = x.value.1 (within (in_down (in_right itself)) h)
  layer_holds (e.Chain x ls) h =
      both_named p (expr_names x.value.0) _ (x.value.1 (within (in_down (in_left itself)) h)) (links_hold ls.items (within (in_down (in_right itself)) h))
  layer_holds (e.Choice ps x) h = choice_holds ps.items x.value h
  layer_holds (e.Concat x xs) h =
      both_named p (expr_names x.value.0) _ (x.value.1 (within (in_down (in_right (in_left itself))) h))
      (parts_hold xs.items (within (in_down (in_right (in_right (in_left itself)))) h))
  layer_holds (e.Repeat n x xs) h =
      both_named p (expr_names n.value.0) _ (n.value.1 (within (in_down (in_right (in_left itself))) h))
      (both_named p (expr_names x.value.0) _ (x.value.1 (within (in_down (in_right (in_right (in_right (in_left itself))))) h))
      (parts_hold xs.items (within (in_down (in_right (in_right (in_right (in_right (in_left (in_left itself))))))) h)))
  layer_holds (e.Cast s x) h = x.value.1 (within (in_down (in_right (in_right (in_left itself)))) h)

  held : (x : Expr-F Expr) (z : Expr-F Inner) → bare z ≡ x → Held (roll-Expr x)
  held x z is h =
      ap (named p) (fold-roll-Expr Bytes expr_names_step x)
      ∙ subst (λ (u : Expr-F Expr). Fine p (layer u) → named p (layer_names u) ≡ true) is (layer_holds z)
      (subst (Fine p) (fold-roll-Expr Tree expr_step x) h)

  expr_holds : (x : Expr) → Fine p (expr_tree x) → named p (expr_names x) ≡ true
  expr_holds = ind-Expr Held held

  -- ---- left sides

  chosen_holds : (s : Expr × Option (PartSelect × Expr)) → Fine p (chosen_tree s) → named p (select_expr_names s) ≡ true
  chosen_holds (x, None) h = both_named p (expr_names x) [] (expr_holds x (within (in_right (in_left itself)) h)) refl
  chosen_holds (x, Some (how, z)) h =
      both_named p (expr_names x) (expr_names z) (expr_holds x (within (in_right (in_left itself)) h)) (expr_holds z (within (in_right (in_right (in_left (in_right itself)))) h))

  abbrev LeftHeld : Left → Type 0
  LeftHeld x = Fine p (left_tree x) → named p (left_names x) ≡ true

  abbrev InnerLeft : Type 0
  InnerLeft = (x : Left) × LeftHeld x

  abbrev bare_left : Left-F InnerLeft → Left-F Left
  bare_left x = map-Left InnerLeft Left (λ q. q.0) x

  abbrev left_layer : Left-F Left → Tree
  left_layer x = left_step (map-Left Left Tree left_tree x)

  abbrev left_layer_names : Left-F Left → Bytes
  left_layer_names x = left_names_step (map-Left Left Bytes left_names x)

  lefts_hold : (xs : List InnerLeft) → Fine p (commas_tree (map left_tree (map (λ q. q.0) xs))) → named p (flat_map (λ ns. ns) (map left_names (map (λ q. q.0) xs))) ≡ true
  lefts_hold [] h = refl
  lefts_hold (x ∷ xs) h =
      both_named p (left_names x.0) _ (x.1 (within (in_left (in_right itself)) h)) (lefts_hold xs (within (in_right itself) h))

  left_layer_holds : (x : Left-F InnerLeft) → Fine p (left_layer (bare_left x)) → named p (left_layer_names (bare_left x)) ≡ true
  left_layer_holds (f.Name n ss) h =
      let own : Fine p (leaf (a_name n.items)) = within (in_down (in_left itself)) h in
      and_of (p (a_name n.items)) _ (first_of (p (a_name n.items)) true own.is)
      (row_named p chosen_tree select_expr_names chosen_holds ss.items (within (in_down (in_right itself)) h))
  left_layer_holds (f.Concat x xs) h =
      both_named p (left_names x.value.0) _ (x.value.1 (within (in_down (in_right (in_left itself))) h))
      (lefts_hold xs.items (within (in_down (in_right (in_right (in_left itself)))) h))

  left_held : (x : Left-F Left) (z : Left-F InnerLeft) → bare_left z ≡ x → LeftHeld (roll-Left x)
  left_held x z is h =
      ap (named p) (fold-roll-Left Bytes left_names_step x)
      ∙ subst (λ (u : Left-F Left). Fine p (left_layer u) → named p (left_layer_names u) ≡ true) is (left_layer_holds z)
      (subst (Fine p) (fold-roll-Left Tree left_step x) h)

  left_holds : (x : Left) → Fine p (left_tree x) → named p (left_names x) ≡ true
  left_holds = ind-Left LeftHeld left_held

  -- ---- items

  end_holds : (o : Option Expr) → Fine p (end_tree o) → named p (end_names o) ≡ true
  end_holds None h = refl
  end_holds (Some x) h = expr_holds x h

  connection_holds : (c : Connection) → Fine p (connection_tree c) → named p (connection_names c) ≡ true
  connection_holds c h = end_holds c.value (within (in_right (in_right (in_right (in_left itself)))) h)

  connections_hold : (c : Connections) → Fine p (connections_tree c) → named p (connections_names c) ≡ true
  connections_hold (Ordered x xs) h =
      both_named p (end_names x) (flat_map end_names xs.items) (end_holds x (within (in_left itself) h)) (commas_named p end_tree end_names end_holds xs.items (within (in_right itself) h))
  connections_hold (Named c cs) h =
      both_named p (connection_names c) (flat_map connection_names cs.items) (connection_holds c (within (in_left itself) h))
      (commas_named p connection_tree connection_names connection_holds cs.items (within (in_right itself) h))

  instance_holds : (x : Instance) → Fine p (instance_tree x) → named p (instance_names x) ≡ true
  instance_holds x h = connections_hold x.ports (within (in_right (in_right (in_left itself))) h)

  assignment_holds : (a : NetAssignment) → Fine p (net_assignment_tree a) → named p (assignment_names a) ≡ true
  assignment_holds a h = left_holds a.target (within (in_left itself) h)

  item_holds : (x : Item) → Fine p (item_tree x) → named p (names_used_by x) ≡ true
  item_holds (i.Port g ns) h = refl
  item_holds (i.Genvar ns) h = refl
  item_holds (i.Wire g ds) h = refl
  item_holds (i.Reg g ds) h = refl
  item_holds (i.Integer ds) h = refl
  item_holds (i.Parameter g xs) h = refl
  item_holds (i.Localparam g xs) h = refl
  item_holds (i.Instances n o xs) h = listed_named p instance_tree instance_names instance_holds xs.items (within (in_down (in_right (in_right itself))) h)
  item_holds (i.Assign xs) h = listed_named p net_assignment_tree assignment_names assignment_holds xs.items (within (in_down (in_right itself)) h)
  item_holds (i.Initial x) h = refl
  item_holds (i.Always x) h = refl

  -- ---- module items

  abbrev ItemHeld : ModuleItem → Type 0
  ItemHeld x = Fine p (module_item_tree x) → named p (names_used_in x) ≡ true

  abbrev InnerItem : Type 0
  InnerItem = (x : ModuleItem) × ItemHeld x

  abbrev bare_item : ModuleItem-F InnerItem → ModuleItem-F ModuleItem
  bare_item x = map-ModuleItem InnerItem ModuleItem (λ q. q.0) x

  abbrev item_layer : ModuleItem-F ModuleItem → Tree
  item_layer x = module_item_step (map-ModuleItem ModuleItem Tree module_item_tree x)

  abbrev item_layer_names : ModuleItem-F ModuleItem → Bytes
  item_layer_names x = used_step (map-ModuleItem ModuleItem Bytes names_used_in x)

  inner_items_hold : (xs : List InnerItem) → Fine p (row_of (map module_item_tree (map (λ q. q.0) xs))) → named p (flat_map (λ ns. ns) (map names_used_in (map (λ q. q.0) xs))) ≡ true
  inner_items_hold [] h = refl
  inner_items_hold (x ∷ xs) h = both_named p (names_used_in x.0) _ (x.1 (within (in_left itself) h)) (inner_items_hold xs (within (in_right itself) h))

  other_holds : (o : Option (Box InnerItem Global)) → Fine p (else_tree (former-ModuleItem-If-2-at-2.map ModuleItem Tree module_item_tree (former-ModuleItem-If-2-at-2.map InnerItem ModuleItem (λ q. q.0) o))) →
      named p (else_names (former-ModuleItem-If-2-at-2.map ModuleItem Bytes names_used_in (former-ModuleItem-If-2-at-2.map InnerItem ModuleItem (λ q. q.0) o))) ≡ true
  other_holds None h = refl
  other_holds (Some x) h = x.value.1 (within (in_right itself) h)

  item_layer_holds : (z : ModuleItem-F InnerItem) → Fine p (item_layer (bare_item z)) → named p (item_layer_names (bare_item z)) ≡ true
  item_layer_holds (y.Plain x) h = item_holds x h
  item_layer_holds (y.Region xs) h = inner_items_hold xs.items (within (in_down (in_right (in_left itself))) h)
  item_layer_holds (y.For k x) h =
      x.value.1 (within (in_down (in_right (in_right (in_right (in_right (in_right (in_right (in_right (in_right itself))))))))) h)
  item_layer_holds (y.If c x o) h =
      both_named p (names_used_in x.value.0) _ (x.value.1 (within (in_down (in_right (in_right (in_right (in_right (in_left itself)))))) h))
      (other_holds o (within (in_down (in_right (in_right (in_right (in_right (in_right itself)))))) h))
  item_layer_holds y.Null h = refl
  item_layer_holds (y.Block n xs) h = inner_items_hold xs.items (within (in_right (in_right (in_left itself))) h)

  item_held : (x : ModuleItem-F ModuleItem) (z : ModuleItem-F InnerItem) → bare_item z ≡ x → ItemHeld (roll-ModuleItem x)
  item_held x z is h =
      ap (named p) (fold-roll-ModuleItem Bytes used_step x)
      ∙ subst (λ (u : ModuleItem-F ModuleItem). Fine p (item_layer u) → named p (item_layer_names u) ≡ true) is (item_layer_holds z)
      (subst (Fine p) (fold-roll-ModuleItem Tree module_item_step x) h)

  module_item_holds : (x : ModuleItem) → Fine p (module_item_tree x) → named p (names_used_in x) ≡ true
  module_item_holds = ind-ModuleItem ItemHeld item_held

  -- ---- modules

  module_holds : (x : Module) → Fine p (module_tree x) → named p (flat_map names_used_in x.items.items) ≡ true
  module_holds x h =
      row_named p module_item_tree names_used_in module_item_holds x.items.items (within (in_right (in_right (in_right (in_right (in_right (in_left itself)))))) h)

  row_behind : (xs ys : List Tree) → Fine p (row_of (xs ++ ys)) → Fine p (row_of ys)
  row_behind [] ys h = h
  row_behind (x ∷ xs) ys h = row_behind xs ys (within (in_right itself) h)

  modules_hold : (xs : List Module) (ds : List Directive) → Fine p (row_of (flat_map directed_trees xs ++ map directive_tree ds)) → named p (names_used_among xs) ≡ true
  modules_hold [] ds h = refl
  modules_hold (x ∷ xs) ds h =
      let r = row_behind (map directive_tree x.directives.items) (module_tree x ∷ (flat_map directed_trees xs ++ map directive_tree ds))
      (subst (λ us. Fine p (row_of us)) (append_assoc (directed_trees x) (flat_map directed_trees xs) (map directive_tree ds)
      ∙ append_assoc (map directive_tree x.directives.items) (module_tree x ∷ []) (flat_map directed_trees xs ++ map directive_tree ds)) h) in
      both_named p (flat_map names_used_in x.items.items) (names_used_among xs) (module_holds x (within (in_left itself) r)) (modules_hold xs ds (within (in_right itself) r))

pub used_are_tokens : UsedAreTokens
used_are_tokens p ts s derives h = modules_hold p s.modules.items s.directives.items (record { is = subst (λ us. list_all p us ≡ true) derives.text h })
