-- Lemmas on the names that a source declares.
use Rattle.std.proofs.Common.{◌≡◌, ℕ, Bool, true, false, true≢false, ◌&&◌, List, [], ◌∷◌, ◌++◌, Option, None, Some, map, refl, sym, ◌∙◌, ap, subst, append_assoc}
use Rattle.std.specs.List.{flat_map, list_all}
use Rattle.std.proofs.lemmas.List.Folds.{list_all-append}
use Rattle.vs_lexer.specs.declared.token.Mark.TheVariants as m
use Rattle.vs_syntax.specs.declared.tree.Form.{Form}
use Rattle.vs_syntax.specs.declared.tree.Declarator.{Declarator}
use Rattle.std.specs.Option.{option_map}
use Rattle.std.specs.declared.vec.Vec.{Vec}
use Rattle.std.specs.declared.alloc.Global.{Global}
use Rattle.vs_syntax.specs.declared.tree.ParameterForm.{ParameterForm}
use Rattle.vs_syntax.specs.declared.tree.HeaderParameter.{HeaderParameter}
use Rattle.vs_syntax.specs.declared.tree.Constant.{Constant}
use Rattle.vs_syntax.specs.declared.tree.PortForm.{PortForm}
use Rattle.vs_syntax.specs.declared.tree.Port.{Port}
use Rattle.vs_syntax.specs.declared.tree.Connections.{Connections}
use Rattle.vs_syntax.specs.declared.tree.Instance.{Instance}
use Rattle.std.specs.declared.boxed.Box.{Box}
use Rattle.vs_lexer.specs.declared.token.Directive.{Directive}
use Rattle.vs_syntax.specs.declared.tree.CaseLabel.{CaseLabel}
use Rattle.vs_syntax.specs.declared.tree.CaseLabel.TheVariants as n
use Rattle.vs_syntax.specs.declared.tree.Local.{Local}
use Rattle.vs_syntax.specs.declared.tree.LocalDeclaration.{LocalDeclaration}
use Rattle.vs_syntax.specs.declared.tree.LocalDeclaration.TheVariants as d
use Rattle.vs_syntax.specs.declared.tree.Stmt.{Stmt, Stmt-F, roll-Stmt, ind-Stmt, map-Stmt, fold-roll-Stmt}
use Rattle.vs_syntax.specs.declared.tree.Stmt.TheOpen as f
use Rattle.vs_syntax.specs.declared.tree.Stmt.TheShapes.{former-Stmt-If-2-at-2}
use Rattle.vs_syntax.specs.declared.tree.ModuleItem.{ModuleItem, ModuleItem-F, roll-ModuleItem, ind-ModuleItem, map-ModuleItem, fold-roll-ModuleItem}
use Rattle.vs_syntax.specs.declared.tree.ModuleItem.TheOpen as y
use Rattle.vs_syntax.specs.declared.tree.ModuleItem.TheShapes.{former-ModuleItem-If-2-at-2}
use Rattle.vs_syntax.specs.declared.tree.Item.{Item}
use Rattle.vs_syntax.specs.declared.tree.Item.TheVariants as i
use Rattle.vs_syntax.specs.declared.tree.Module.{Module}
use Rattle.vs_lexer.specs.declared.token.Word.TheVariants as w
use Rattle.vs_syntax.specs.Symbols.{Symbol, a_mark, a_name, a_word}
use Rattle.vs_syntax.specs.Derivation.{Tree, leaf, both, down, tokens}
use Rattle.vs_syntax.specs.Views.{row_of, name_tree, commas_tree, comma_list_tree, expr_tree, connections_tree, declarator_rest_tree, declarator_tree, form_tree, declared_tree, parameter_form_tree, valued_tree, constant_tree, parameter_word_tree, header_parameter_tree, header_parameters_tree, direction_word, kind_tree, port_form_tree, port_tree, more_ports_tree, ports_tree, header_ports_tree, overrides_tree, instance_tree, constants_tree, item_tree, value_tree, bare_name_tree, range_tree, local_tree, local_declaration_tree, labelled_tree, case_item_tree, some_tree, else_tree, stmt_step, stmt_tree, block_name_tree, module_item_step, module_item_tree, module_tree, directive_tree, directed_trees}
use Rattle.vs_syntax.specs.SourceNames.{NamesAreTokens, declarator_names, constant_names, instance_names, header_parameter_names, port_names, bare_names, local_names, else_names, stmt_names_step, stmt_names, item_names, block_names, module_item_names_step, module_item_names, module_names, declared_names}
use Rattle.std.proofs.lemmas.Bool.{and_from as and_of}
use Rattle.vs_logic4.proofs.Basics.{and_left as first_of, and_right as second_of}

-- whether a test holds of each token of a tree
abbrev holds : (Symbol → Bool) → Tree → Bool
holds p x = list_all p (tokens x)

left : (p : Symbol → Bool) (x y : Tree) → holds p (both x y) ≡ true → holds p x ≡ true
left p x y h = first_of (holds p x) (holds p y) (sym (list_all-append p (tokens x) (tokens y)) ∙ h)

right : (p : Symbol → Bool) (x y : Tree) → holds p (both x y) ≡ true → holds p y ≡ true
right p x y h = second_of (holds p x) (holds p y) (sym (list_all-append p (tokens x) (tokens y)) ∙ h)

abbrev named : (Symbol → Bool) → List (List ℕ) → Bool
named p ns = list_all (λ n. p (a_name n)) ns

-- parts that hold their names, each behind a comma
rest_holds : {A : Type 0} (p : Symbol → Bool) (tree : A → Tree) (name : A → List ℕ) → ((x : A) → holds p (tree x) ≡ true → p (a_name (name x)) ≡ true) → (xs : List A) → holds p (commas_tree (map tree xs)) ≡ true → named p (map name xs) ≡ true
rest_holds p tree name f [] h = refl
rest_holds p tree name f (x ∷ xs) h =
    let comma = leaf (a_mark m.Comma) in
    let others = commas_tree (map tree xs) in
    and_of (p (a_name (name x))) (named p (map name xs))
    (f x (right p comma (tree x) (left p (both comma (tree x)) others h)))
    (rest_holds p tree name f xs (right p (both comma (tree x)) others h))

-- the first of them, and the others behind commas, before an end
row_holds : {A : Type 0} (p : Symbol → Bool) (tree : A → Tree) (name : A → List ℕ) → ((x : A) → holds p (tree x) ≡ true → p (a_name (name x)) ≡ true) → (x : A) (xs : List A) (end : Tree) → holds p (both (tree x) (both (commas_tree (map tree xs)) end)) ≡ true → named p (map name (x ∷ xs)) ≡ true
row_holds p tree name f x xs end h =
    let others = commas_tree (map tree xs) in
    and_of (p (a_name (name x))) (named p (map name xs))
    (f x (left p (tree x) (both others end) h))
    (rest_holds p tree name f xs (left p others end (right p (tree x) (both others end) h)))

listed_holds : {A : Type 0} (p : Symbol → Bool) (tree : A → Tree) (name : A → List ℕ) → ((x : A) → holds p (tree x) ≡ true → p (a_name (name x)) ≡ true) → (xs : List A) → holds p (comma_list_tree (map tree xs)) ≡ true → named p (map name xs) ≡ true
listed_holds p tree name f [] h = refl
listed_holds p tree name f (x ∷ xs) h = row_holds p tree name f x xs (leaf (a_mark m.Semicolon)) h

-- a name, and what stands behind it
name_holds : (p : Symbol → Bool) (n : List ℕ) (x : Tree) → holds p (both (name_tree n) x) ≡ true → p (a_name n) ≡ true
name_holds p n x h = first_of (p (a_name n)) true (left p (name_tree n) x h)

declarators_hold : (p : Symbol → Bool) (ds : List Declarator) → holds p (comma_list_tree (map declarator_tree ds)) ≡ true → named p (declarator_names ds) ≡ true
declarators_hold p ds h = listed_holds p declarator_tree (λ d. d.name.items) (λ d i. name_holds p d.name.items (declarator_rest_tree d.words d.value) i) ds h

constants_hold : (p : Symbol → Bool) (f : ParameterForm) (xs : List Constant) → holds p (constants_tree f xs) ≡ true → named p (constant_names xs) ≡ true
constants_hold p f xs h =
    listed_holds p constant_tree (λ x. x.name.items) (λ x i. name_holds p x.name.items (both (leaf (a_mark m.Assign)) (expr_tree x.value)) i) xs
    (right p (parameter_form_tree f) (comma_list_tree (map constant_tree xs)) h)

instances_hold : (p : Symbol → Bool) (o : Option Connections) (xs : List Instance) → holds p (both (overrides_tree o) (comma_list_tree (map instance_tree xs))) ≡ true → named p (instance_names xs) ≡ true
instances_hold p o xs h =
    listed_holds p instance_tree (λ x. x.name.items)
    (λ x i. name_holds p x.name.items (both (leaf (a_mark m.Open)) (both (connections_tree x.ports) (leaf (a_mark m.Close)))) i) xs
    (right p (overrides_tree o) (comma_list_tree (map instance_tree xs)) h)

header_parameters_hold : (p : Symbol → Bool) (xs : List HeaderParameter) → holds p (header_parameters_tree (map header_parameter_tree xs)) ≡ true → named p (header_parameter_names xs) ≡ true
header_parameters_hold p [] h = refl
header_parameters_hold p (x ∷ xs) h =
    let close = leaf (a_mark m.Close) in
    let inside = both (header_parameter_tree x) (both (commas_tree (map header_parameter_tree xs)) close) in
    row_holds p header_parameter_tree (λ y. y.name.items)
    (λ y i. name_holds p y.name.items (both (leaf (a_mark m.Assign)) (expr_tree y.value)) (right p (parameter_word_tree y.form) (valued_tree y.name.items y.value) i)) x xs close
    (right p (leaf (a_mark m.Open)) inside (right p (leaf (a_mark m.Hash)) (both (leaf (a_mark m.Open)) inside) h))

port_form_holds : (p : Symbol → Bool) (f : Option PortForm) (x : Tree) → holds p (port_form_tree f x) ≡ true → holds p x ≡ true
port_form_holds p None x h = h
port_form_holds p (Some f) x h =
    let named = both (form_tree f.form) x in
    right p (form_tree f.form) x (right p (kind_tree f.kind) named (right p (leaf (a_word (direction_word f.direction))) (both (kind_tree f.kind) named) h))

port_holds : (p : Symbol → Bool) (x : Port) (rest : Tree) → holds p (port_tree x rest) ≡ true → (p (a_name x.name.items) ≡ true) × (holds p rest ≡ true)
port_holds p x rest h =
    let behind = both (value_tree x.value) rest in
    let k = port_form_holds p x.form (both (name_tree x.name.items) behind) h in
    (name_holds p x.name.items behind k, right p (value_tree x.value) rest (right p (name_tree x.name.items) behind k))

more_ports_hold : (p : Symbol → Bool) (xs : List Port) → holds p (more_ports_tree xs) ≡ true → named p (map (λ (x : Port). x.name.items) xs) ≡ true
more_ports_hold p [] h = refl
more_ports_hold p (x ∷ xs) h =
    let k = port_holds p x (more_ports_tree xs) (right p (leaf (a_mark m.Comma)) (port_tree x (more_ports_tree xs)) h) in
    and_of (p (a_name x.name.items)) (named p (map (λ (y : Port). y.name.items) xs)) k.0 (more_ports_hold p xs k.1)

port_list_holds : (p : Symbol → Bool) (xs : List Port) → holds p (ports_tree xs) ≡ true → named p (map (λ (x : Port). x.name.items) xs) ≡ true
port_list_holds p [] h = refl
port_list_holds p (x ∷ xs) h =
    let k = port_holds p x (more_ports_tree xs) h in
    and_of (p (a_name x.name.items)) (named p (map (λ (y : Port). y.name.items) xs)) k.0 (more_ports_hold p xs k.1)

-- the ports of a module, where it has a list of them, as a tree
abbrev ports_of_header : Option (Vec Port Global) → Tree
ports_of_header o = header_ports_tree (option_map (λ (ps : Vec Port Global). ps.items) o)

ports_hold : (p : Symbol → Bool) (o : Option (Vec Port Global)) → holds p (ports_of_header o) ≡ true → named p (port_names o) ≡ true
ports_hold p None h = refl
ports_hold p (Some xs) h =
    let inside = ports_tree xs.items in
    let close = leaf (a_mark m.Close) in
    port_list_holds p xs.items (left p inside close (right p (leaf (a_mark m.Open)) (both inside close) h))

declared_holds : (p : Symbol → Bool) (f : Form) (ds : List Declarator) → holds p (declared_tree f ds) ≡ true → named p (declarator_names ds) ≡ true
declared_holds p f ds h = declarators_hold p ds (right p (form_tree f) (comma_list_tree (map declarator_tree ds)) h)

-- two lists of names, one behind the other
both_named : (p : Symbol → Bool) (ms ns : List (List ℕ)) → named p ms ≡ true → named p ns ≡ true → named p (ms ++ ns) ≡ true
both_named p ms ns h k = list_all-append (λ n. p (a_name n)) ms ns ∙ and_of (named p ms) (named p ns) h k

-- a tree of which a test holds of each token
record Fine (p : Symbol → Bool) (x : Tree) : Type 0 where
  is : holds p x ≡ true

-- a tree in another one
data Within : Tree → Tree → Type 0 where
  itself : {x : Tree} → Within x x
  in_left : {x y z : Tree} → Within x z → Within (both x y) z
  in_right : {x y z : Tree} → Within y z → Within (both x y) z
  in_down : {x z : Tree} → Within x z → Within (down x) z

within : {p : Symbol → Bool} {x z : Tree} → Within x z → Fine p x → Fine p z
within itself h = h
within {p = p} (in_left {x = x} {y = y} w) h = within w (record { is = left p x y h.is })
within {p = p} (in_right {x = x} {y = y} w) h = within w (record { is = right p x y h.is })
within (in_down w) h = within w (record { is = h.is })

-- ---- statements

locals_hold : (p : Symbol → Bool) (xs : List Local) → Fine p (comma_list_tree (map local_tree xs)) → named p (map (λ (x : Local). x.name.items) xs) ≡ true
locals_hold p xs h = listed_holds p local_tree (λ (x : Local). x.name.items) (λ x i. name_holds p x.name.items (range_tree x.words) i) xs h.is

declaration_holds : (p : Symbol → Bool) (x : LocalDeclaration) → Fine p (local_declaration_tree x) → named p (local_names x) ≡ true
declaration_holds p (d.Reg f xs) h = locals_hold p xs.items (within (in_right (in_right itself)) h)
declaration_holds p (d.Integer xs) h = locals_hold p xs.items (within (in_right itself) h)

declarations_hold : (p : Symbol → Bool) (xs : List LocalDeclaration) → Fine p (row_of (map local_declaration_tree xs)) → named p (flat_map local_names xs) ≡ true
declarations_hold p [] h = refl
declarations_hold p (x ∷ xs) h =
    both_named p (local_names x) (flat_map local_names xs) (declaration_holds p x (within (in_left itself) h))
    (declarations_hold p xs (within (in_right itself) h))

-- a statement of which the tree holds its names
abbrev Held : (Symbol → Bool) → Stmt → Type 0
Held p x = Fine p (stmt_tree x) → named p (stmt_names x) ≡ true

abbrev Inner : (Symbol → Bool) → Type 0
Inner p = (x : Stmt) × Held p x

abbrev bare : (p : Symbol → Bool) → Stmt-F (Inner p) → Stmt-F Stmt
bare p y = map-Stmt (Inner p) Stmt (λ q. q.0) y

abbrev layer : Stmt-F Stmt → Tree
layer x = stmt_step (map-Stmt Stmt Tree stmt_tree x)

abbrev layer_names : Stmt-F Stmt → List (List ℕ)
layer_names x = stmt_names_step (map-Stmt Stmt (List (List ℕ)) stmt_names x)

stmts_hold : (p : Symbol → Bool) (xs : List (Inner p)) → Fine p (row_of (map stmt_tree (map (λ q. q.0) xs))) → named p (flat_map (λ ns. ns) (map stmt_names (map (λ q. q.0) xs))) ≡ true
stmts_hold p [] h = refl
stmts_hold p (x ∷ xs) h =
    both_named p (stmt_names x.0) (flat_map (λ ns. ns) (map stmt_names (map (λ q. q.0) xs))) (x.1 (within (in_left itself) h))
    (stmts_hold p xs (within (in_right itself) h))

else_holds : (p : Symbol → Bool) (o : Option (Box (Inner p) Global)) → Fine p (else_tree (former-Stmt-If-2-at-2.map Stmt Tree stmt_tree (former-Stmt-If-2-at-2.map (Inner p) Stmt (λ q. q.0) o))) → named p (else_names (former-Stmt-If-2-at-2.map Stmt (List (List ℕ)) stmt_names (former-Stmt-If-2-at-2.map (Inner p) Stmt (λ q. q.0) o))) ≡ true
else_holds p None h = refl
else_holds p (Some x) h = x.value.1 (within (in_right itself) h)

labelled_within : (l : CaseLabel) (x : Tree) → Within (labelled_tree l x) x
labelled_within (n.Expressions x xs) y = in_right (in_right (in_right itself))
labelled_within (n.Default colon) y = in_right (in_right itself)

-- `case` items as trees, with the names of their statements, and without what is known of those
abbrev item_trees : List (CaseLabel × Stmt) → List (CaseLabel × Tree)
item_trees xs = map (λ x. (x.0, stmt_tree x.1)) xs

abbrev item_name_lists : List (CaseLabel × Stmt) → List (CaseLabel × List (List ℕ))
item_name_lists xs = map (λ x. (x.0, stmt_names x.1)) xs

abbrev bare_items : (p : Symbol → Bool) → List (CaseLabel × Inner p) → List (CaseLabel × Stmt)
bare_items p xs = map (λ x. (x.0, x.1.0)) xs

case_row_holds : (p : Symbol → Bool) (xs : List (CaseLabel × Inner p)) → Fine p (row_of (map case_item_tree (item_trees (bare_items p xs)))) → named p (flat_map (λ (x : CaseLabel × List (List ℕ)). x.1) (item_name_lists (bare_items p xs))) ≡ true
case_row_holds p [] h = refl
case_row_holds p (x ∷ xs) h =
    let one : Fine p (case_item_tree (x.0, stmt_tree x.1.0)) = within (in_left itself) h in
    both_named p (stmt_names x.1.0) _ (x.1.1 (within (labelled_within x.0 (stmt_tree x.1.0)) one))
    (case_row_holds p xs (within (in_right itself) h))

case_items_hold : (p : Symbol → Bool) (xs : List (CaseLabel × Inner p)) → Fine p (some_tree (map case_item_tree (item_trees (bare_items p xs)))) → named p (flat_map (λ (x : CaseLabel × List (List ℕ)). x.1) (item_name_lists (bare_items p xs))) ≡ true
case_items_hold p [] h = refl
case_items_hold p (x ∷ xs) h = case_row_holds p (x ∷ xs) h

layer_holds : (p : Symbol → Bool) (y : Stmt-F (Inner p)) → Fine p (layer (bare p y)) → named p (layer_names (bare p y)) ≡ true
layer_holds p f.Null h = refl
layer_holds p (f.Assign l x) h = refl
layer_holds p (f.Later l v x) h = refl
layer_holds p (f.Block xs) h = stmts_hold p xs.items (within (in_down (in_right (in_right (in_left itself)))) h)
layer_holds p (f.Named n ls xs) h =
    and_of (p (a_name n.items)) _ (name_holds p n.items (row_of (map local_declaration_tree ls.items)) (within (in_down (in_right (in_left (in_right itself)))) h).is)
    (both_named p (flat_map local_names ls.items) _
    (declarations_hold p ls.items (within (in_down (in_right (in_left (in_right (in_right itself))))) h))
    (stmts_hold p xs.items (within (in_down (in_right (in_right (in_left itself)))) h)))
layer_holds p (f.If e x o) h =
    both_named p (stmt_names x.value.0) _ (x.value.1 (within (in_down (in_right (in_right (in_right (in_right (in_left itself)))))) h))
    (else_holds p o (within (in_down (in_right (in_right (in_right (in_right (in_right itself)))))) h))
layer_holds p (f.Case k e xs) h =
    case_items_hold p xs.items (within (in_down (in_right (in_right (in_right (in_right (in_left itself)))))) h)
layer_holds p (f.For k x) h =
    x.value.1 (within (in_down (in_right (in_right (in_right (in_right (in_right (in_right (in_right (in_right itself))))))))) h)
layer_holds p (f.While e x) h = x.value.1 (within (in_down (in_right (in_right (in_right (in_right itself))))) h)
layer_holds p (f.Repeat e x) h = x.value.1 (within (in_down (in_right (in_right (in_right (in_right itself))))) h)
layer_holds p (f.Forever x) h = x.value.1 (within (in_down (in_right itself)) h)
layer_holds p (f.Delay v x) h = x.value.1 (within (in_down (in_right (in_right itself))) h)
layer_holds p (f.Event v x) h = x.value.1 (within (in_down (in_right (in_right itself))) h)
layer_holds p (f.Print task xs) h = refl
layer_holds p (f.Finish n) h = refl
layer_holds p (f.Dump task xs) h = refl

held : (p : Symbol → Bool) (x : Stmt-F Stmt) (y : Stmt-F (Inner p)) → bare p y ≡ x → Held p (roll-Stmt x)
held p x y is h =
    ap (named p) (fold-roll-Stmt (List (List ℕ)) stmt_names_step x)
    ∙ subst (λ (u : Stmt-F Stmt). Fine p (layer u) → named p (layer_names u) ≡ true) is (layer_holds p y)
    (subst (Fine p) (fold-roll-Stmt Tree stmt_step x) h)

stmt_holds : (p : Symbol → Bool) (x : Stmt) → Fine p (stmt_tree x) → named p (stmt_names x) ≡ true
stmt_holds p = ind-Stmt (Held p) (held p)

-- ---- items

bare_names_hold : (p : Symbol → Bool) (ns : List (Vec ℕ Global)) → Fine p (comma_list_tree (map bare_name_tree ns)) → named p (bare_names ns) ≡ true
bare_names_hold p ns h = listed_holds p bare_name_tree (λ (n : Vec ℕ Global). n.items) (λ n i. first_of (p (a_name n.items)) true i) ns h.is

item_holds : (p : Symbol → Bool) (x : Item) → Fine p (item_tree x) → named p (item_names x) ≡ true
item_holds p (i.Port f ns) h = bare_names_hold p ns.items (within (in_down (in_right (in_right (in_right itself)))) h)
item_holds p (i.Genvar ns) h = bare_names_hold p ns.items (within (in_down (in_right itself)) h)
item_holds p (i.Wire f ds) h = declared_holds p f ds.items (within (in_down (in_right itself)) h).is
item_holds p (i.Reg f ds) h = declared_holds p f ds.items (within (in_down (in_right itself)) h).is
item_holds p (i.Integer ds) h = declarators_hold p ds.items (within (in_down (in_right itself)) h).is
item_holds p (i.Parameter f xs) h = constants_hold p f xs.items (within (in_down (in_right itself)) h).is
item_holds p (i.Localparam f xs) h = constants_hold p f xs.items (within (in_down (in_right itself)) h).is
item_holds p (i.Instances n o xs) h = instances_hold p o xs.items (within (in_down (in_right itself)) h).is
item_holds p (i.Assign xs) h = refl
item_holds p (i.Initial x) h = stmt_holds p x (within (in_down (in_right itself)) h)
item_holds p (i.Always x) h = stmt_holds p x (within (in_down (in_right itself)) h)

-- ---- module items

-- a module item of which the tree holds its names
abbrev ItemHeld : (Symbol → Bool) → ModuleItem → Type 0
ItemHeld p x = Fine p (module_item_tree x) → named p (module_item_names x) ≡ true

abbrev InnerItem : (Symbol → Bool) → Type 0
InnerItem p = (x : ModuleItem) × ItemHeld p x

abbrev bare_item : (p : Symbol → Bool) → ModuleItem-F (InnerItem p) → ModuleItem-F ModuleItem
bare_item p y = map-ModuleItem (InnerItem p) ModuleItem (λ q. q.0) y

abbrev item_layer : ModuleItem-F ModuleItem → Tree
item_layer x = module_item_step (map-ModuleItem ModuleItem Tree module_item_tree x)

abbrev item_layer_names : ModuleItem-F ModuleItem → List (List ℕ)
item_layer_names x = module_item_names_step (map-ModuleItem ModuleItem (List (List ℕ)) module_item_names x)

inner_items_hold : (p : Symbol → Bool) (xs : List (InnerItem p)) → Fine p (row_of (map module_item_tree (map (λ q. q.0) xs))) → named p (flat_map (λ ns. ns) (map module_item_names (map (λ q. q.0) xs))) ≡ true
inner_items_hold p [] h = refl
inner_items_hold p (x ∷ xs) h =
    both_named p (module_item_names x.0) (flat_map (λ ns. ns) (map module_item_names (map (λ q. q.0) xs))) (x.1 (within (in_left itself) h))
    (inner_items_hold p xs (within (in_right itself) h))

other_holds : (p : Symbol → Bool) (o : Option (Box (InnerItem p) Global)) → Fine p (else_tree (former-ModuleItem-If-2-at-2.map ModuleItem Tree module_item_tree (former-ModuleItem-If-2-at-2.map (InnerItem p) ModuleItem (λ q. q.0) o))) → named p (else_names (former-ModuleItem-If-2-at-2.map ModuleItem (List (List ℕ)) module_item_names (former-ModuleItem-If-2-at-2.map (InnerItem p) ModuleItem (λ q. q.0) o))) ≡ true
other_holds p None h = refl
other_holds p (Some x) h = x.value.1 (within (in_right itself) h)

block_name_holds : (p : Symbol → Bool) (n : Option (Vec ℕ Global)) → Fine p (block_name_tree n) → named p (block_names n) ≡ true
block_name_holds p None h = refl
block_name_holds p (Some n) h = (within (in_right itself) h).is

item_layer_holds : (p : Symbol → Bool) (z : ModuleItem-F (InnerItem p)) → Fine p (item_layer (bare_item p z)) → named p (item_layer_names (bare_item p z)) ≡ true
item_layer_holds p (y.Plain x) h = item_holds p x h
item_layer_holds p (y.Region xs) h = inner_items_hold p xs.items (within (in_down (in_right (in_left itself))) h)
item_layer_holds p (y.For k x) h =
    x.value.1 (within (in_down (in_right (in_right (in_right (in_right (in_right (in_right (in_right (in_right itself))))))))) h)
item_layer_holds p (y.If e x o) h =
    both_named p (module_item_names x.value.0) _ (x.value.1 (within (in_down (in_right (in_right (in_right (in_right (in_left itself)))))) h))
    (other_holds p o (within (in_down (in_right (in_right (in_right (in_right (in_right itself)))))) h))
item_layer_holds p y.Null h = refl
item_layer_holds p (y.Block n xs) h =
    both_named p (block_names n) _ (block_name_holds p n (within (in_right (in_left itself)) h))
    (inner_items_hold p xs.items (within (in_right (in_right (in_left itself))) h))

item_held : (p : Symbol → Bool) (x : ModuleItem-F ModuleItem) (z : ModuleItem-F (InnerItem p)) → bare_item p z ≡ x → ItemHeld p (roll-ModuleItem x)
item_held p x z is h =
    ap (named p) (fold-roll-ModuleItem (List (List ℕ)) module_item_names_step x)
    ∙ subst (λ (u : ModuleItem-F ModuleItem). Fine p (item_layer u) → named p (item_layer_names u) ≡ true) is (item_layer_holds p z)
    (subst (Fine p) (fold-roll-ModuleItem Tree module_item_step x) h)

module_item_holds : (p : Symbol → Bool) (x : ModuleItem) → Fine p (module_item_tree x) → named p (module_item_names x) ≡ true
module_item_holds p = ind-ModuleItem (ItemHeld p) (item_held p)

items_hold : (p : Symbol → Bool) (xs : List ModuleItem) → Fine p (row_of (map module_item_tree xs)) → named p (flat_map module_item_names xs) ≡ true
items_hold p [] h = refl
items_hold p (x ∷ xs) h =
    both_named p (module_item_names x) (flat_map module_item_names xs) (module_item_holds p x (within (in_left itself) h))
    (items_hold p xs (within (in_right itself) h))

module_holds : (p : Symbol → Bool) (x : Module) → holds p (module_tree x) ≡ true → named p (module_names x) ≡ true
module_holds p x h =
    let end = leaf (a_word w.Endmodule) in
    let inside = row_of (map module_item_tree x.items.items) in
    let body = both (leaf (a_mark m.Semicolon)) (both inside end) in
    let parameters = header_parameters_tree (map header_parameter_tree x.parameters.items) in
    let ports = ports_of_header x.ports in
    let header = both parameters (both ports body) in
    let own = name_tree x.name.items in
    let behind = right p (leaf (a_word w.Module)) (both own header) h in
    let heads = right p own header behind in
    let rest = right p parameters (both ports body) heads in
    and_of (p (a_name x.name.items)) (named p (header_parameter_names x.parameters.items ++ (port_names x.ports ++ flat_map module_item_names x.items.items)))
    (name_holds p x.name.items header behind)
    (both_named p (header_parameter_names x.parameters.items) (port_names x.ports ++ flat_map module_item_names x.items.items)
    (header_parameters_hold p x.parameters.items (left p parameters (both ports body) heads))
    (both_named p (port_names x.ports) (flat_map module_item_names x.items.items)
    (ports_hold p x.ports (left p ports body rest))
    (items_hold p x.items.items (record { is = left p inside end (right p (leaf (a_mark m.Semicolon)) (both inside end) (right p ports body rest)) }))))

row_holds_behind : (p : Symbol → Bool) (xs ys : List Tree) → Fine p (row_of (xs ++ ys)) → Fine p (row_of ys)
row_holds_behind p [] ys h = h
row_holds_behind p (x ∷ xs) ys h = row_holds_behind p xs ys (within (in_right itself) h)

-- modules behind their directives, and directives behind them, as one row
modules_hold : (p : Symbol → Bool) (xs : List Module) (ds : List Directive) → Fine p (row_of (flat_map directed_trees xs ++ map directive_tree ds)) → named p (declared_names xs) ≡ true
modules_hold p [] ds h = refl
modules_hold p (x ∷ xs) ds h =
    let r = row_holds_behind p (map directive_tree x.directives.items) (module_tree x ∷ (flat_map directed_trees xs ++ map directive_tree ds))
    (subst (λ us. Fine p (row_of us)) (append_assoc (directed_trees x) (flat_map directed_trees xs) (map directive_tree ds)
    ∙ append_assoc (map directive_tree x.directives.items) (module_tree x ∷ []) (flat_map directed_trees xs ++ map directive_tree ds)) h) in
    both_named p (module_names x) (declared_names xs) (module_holds p x (within (in_left itself) r).is) (modules_hold p xs ds (within (in_right itself) r))

pub names_are_tokens : NamesAreTokens
names_are_tokens p ts s derives h = modules_hold p s.modules.items s.directives.items (record { is = subst (λ us. list_all p us ≡ true) derives.text h })
