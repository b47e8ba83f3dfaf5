-- Items and sources of one tree of the grammar say the same.
use Rattle.std.specs.Prelude.{◌≡◌, ℕ, ◌<◌, ◌≤◌, List, [], ◌∷◌, ◌++◌, Option, None, Some, map, refl}
use Rattle.std.proofs.Common.{sym, ◌∙◌, ap, subst, append_assoc, arith}
use Rattle.std.proofs.lemmas.Bool.{eqb-false}
use Rattle.std.specs.List.{flat_map}
use Rattle.std.specs.declared.boxed.Box.{Box}
use Rattle.vs_lexer.specs.declared.token.Directive.{Directive}
use Rattle.std.specs.Option.{option_map}
use Rattle.std.specs.declared.vec.Vec.{Vec}
use Rattle.std.specs.declared.alloc.Global.{Global}
use Rattle.vs_syntax.specs.declared.tree.Range.{Range}
use Rattle.vs_syntax.specs.declared.tree.Declarator.{Declarator}
use Rattle.vs_syntax.specs.declared.tree.NetAssignment.{NetAssignment}
use Rattle.vs_syntax.specs.declared.tree.Expr.{Expr}
use Rattle.vs_syntax.specs.declared.tree.ParameterForm.{ParameterForm}
use Rattle.vs_syntax.specs.declared.tree.ParameterForm.TheVariants as q
use Rattle.vs_syntax.specs.declared.tree.HeaderParameter.{HeaderParameter}
use Rattle.vs_syntax.specs.declared.tree.Constant.{Constant}
use Rattle.vs_syntax.specs.declared.tree.Direction.{Direction}
use Rattle.vs_syntax.specs.declared.tree.Direction.TheVariants as o
use Rattle.vs_syntax.specs.declared.tree.PortKind.{PortKind}
use Rattle.vs_syntax.specs.declared.tree.PortKind.TheVariants as k
use Rattle.vs_syntax.specs.declared.tree.PortForm.{PortForm}
use Rattle.vs_syntax.specs.declared.tree.Port.{Port}
use Rattle.vs_syntax.specs.declared.tree.Connection.{Connection}
use Rattle.vs_syntax.specs.declared.tree.Connections.{Connections}
use Rattle.vs_syntax.specs.declared.tree.Connections.TheVariants as c
use Rattle.vs_syntax.specs.declared.tree.Instance.{Instance}
use Rattle.vs_syntax.specs.declared.tree.Item.{Item}
use Rattle.vs_syntax.specs.declared.tree.Item.TheVariants as i
use Rattle.vs_syntax.specs.declared.tree.LoopHeader.{LoopHeader}
use Rattle.vs_syntax.specs.declared.tree.ModuleItem.{ModuleItem, ModuleItem-F, roll-ModuleItem, out-ModuleItem, roll-out-ModuleItem, ind-ModuleItem, map-ModuleItem, fold-roll-ModuleItem}
use Rattle.vs_syntax.specs.declared.tree.ModuleItem.TheOpen as y
use Rattle.vs_syntax.specs.declared.tree.ModuleItem.TheShapes.{former-ModuleItem-If-2-at-2}
use Rattle.vs_syntax.specs.declared.tree.ModuleItem.TheVariants.{rolls-Plain, rolls-Region, rolls-For, rolls-If, rolls-Null, rolls-Block}
use Rattle.vs_syntax.specs.declared.tree.Module.{Module}
use Rattle.vs_syntax.specs.declared.tree.Source.{Source}
use Rattle.vs_lexer.specs.declared.token.Word.TheVariants as w
use Rattle.vs_syntax.specs.Symbols.{Symbol, a_word, a_name}
use Rattle.vs_syntax.specs.Derivation.{Tree, empty, leaf, both, down, tokens}
use Rattle.vs_syntax.specs.Derives.{Derives}
use Rattle.vs_syntax.specs.Views.{value_tree, declarator_rest_tree, declarator_tree, form_tree, net_assignment_tree, parameter_form_tree, constant_tree, parameter_word_tree, header_parameter_tree, header_parameters_tree, direction_word, kind_tree, port_form_tree, port_tree, more_ports_tree, ports_tree, header_ports_tree, end_tree, connection_tree, connections_tree, overrides_tree, instance_tree, bare_name_tree, name_tree, item_symbol, item_tree, loop_tree, block_name_tree, else_tree, row_of, module_item_step, module_item_tree, module_tree, directive_tree, directed_trees, source_tree}
use Rattle.vs_syntax.specs.Same.{Pairwise, no_pair, pair_more, SameValue, same_no_value, same_value, SameDeclarator, SameRange, same_no_range, SameOption, both_absent, both_there, SameParameterForm, same_integer_word, same_vector, SameConstant, SameHeaderParameter, SamePortForm, SamePort, SamePorts, SameConnection, SameConnections, same_ordered, same_named, SameInstance, SameAssignment, SameName, SameItem, same_port_item, same_genvars, SameLoopHeader, SameModuleItem, same_plain, same_region, same_generate_loop, same_generate_if, same_no_content, same_generate_block, SameOther, same_no_other, same_other, SameModuleItems, same_no_module_item, same_more_module_items, same_wire, same_reg, same_integer, same_parameters, same_localparams, same_instances, same_assigns, same_initial, same_always, SameModule, SameSource}
use Rattle.vs_syntax.proofs.Unique.{unique}
use Rattle.vs_syntax.proofs.Sameness.{same_expr, expr_there, expr_alone, two}
use Rattle.vs_syntax.proofs.SameLefts.{same_left}
use Rattle.vs_syntax.proofs.SameRows.{comma_pairs, listed_pairs}
use Rattle.vs_syntax.proofs.SameForms.{same_ranges, same_form}
use Rattle.vs_syntax.proofs.SameStmts.{same_stmt, headed}

same_option : (v v' : Option Expr) → value_tree v ≡ value_tree v' → SameValue v v'
same_option None None h = same_no_value
same_option None (Some x') h = cc
same_option (Some x) None h = cc
same_option (Some x) (Some x') h = same_value x x' (same_expr x x' (cc))

same_told : (w w' : Option Range) (v v' : Option Expr) → declarator_rest_tree w v ≡ declarator_rest_tree w' v' → SameRange w w' × SameValue v v'
same_told None None v v' h = (same_no_range, same_option v v' h)
same_told (Some r) (Some r') None None h = (same_ranges (Some r) (Some r') h, same_no_value)
same_told (Some r) (Some r') (Some x) (Some x') h = (same_ranges (Some r) (Some r') (cc), same_value x x' (same_expr x x' (cc)))
same_told None (Some r') None None h = cc
same_told None (Some r') None (Some x') h = cc
same_told None (Some r') (Some x) None h = cc
same_told None (Some r') (Some x) (Some x') h = cc
same_told (Some r) None None None h = cc
same_told (Some r) None None (Some x') h = cc
same_told (Some r) None (Some x) None h = cc
same_told (Some r) None (Some x) (Some x') h = cc
same_told (Some r) (Some r') None (Some x') h = cc
same_told (Some r) (Some r') (Some x) None h = cc

same_declarator : (d d' : Declarator) → declarator_tree d ≡ declarator_tree d' → SameDeclarator d d'
same_declarator d d' h = let t = same_told d.words d'.words d.value d'.value (cc) in record { name = cc; words = t.0; value = t.1 }

same_assignment : (a a' : NetAssignment) → net_assignment_tree a ≡ net_assignment_tree a' → SameAssignment a a'
same_assignment a a' h = record { target = same_left a.target a'.target (cc); value = same_expr a.value a'.value (cc) }

same_parameter_form : (f f' : ParameterForm) → parameter_form_tree f ≡ parameter_form_tree f' → SameParameterForm f f'
same_parameter_form q.Integer q.Integer h = same_integer_word
same_parameter_form q.Integer (q.Vector f') h = cc
same_parameter_form (q.Vector f) q.Integer h = cc
same_parameter_form (q.Vector f) (q.Vector f') h = same_vector f f' (same_form f f' h)

same_constant : (x x' : Constant) → constant_tree x ≡ constant_tree x' → SameConstant x x'
same_constant x x' h = record { name = cc; value = same_expr x.value x'.value (cc) }

same_parameter_word : (f f' : Option ParameterForm) → parameter_word_tree f ≡ parameter_word_tree f' → SameOption SameParameterForm f f'
same_parameter_word None None h = both_absent
same_parameter_word None (Some f') h = cc
same_parameter_word (Some f) None h = cc
same_parameter_word (Some f) (Some f') h = both_there f f' (same_parameter_form f f' (cc))

same_header_parameter : (x x' : HeaderParameter) → header_parameter_tree x ≡ header_parameter_tree x' → SameHeaderParameter x x'
same_header_parameter x x' h = record { form = same_parameter_word x.form x'.form (cc); name = cc; value = same_expr x.value x'.value (cc) }

same_header_parameters : (xs xs' : List HeaderParameter) → header_parameters_tree (map header_parameter_tree xs) ≡ header_parameters_tree (map header_parameter_tree xs') → Pairwise SameHeaderParameter xs xs'
same_header_parameters [] [] h = no_pair
same_header_parameters [] (x' ∷ xs') h = cc
same_header_parameters (x ∷ xs) [] h = cc
same_header_parameters (x ∷ xs) (x' ∷ xs') h =
    pair_more x x' xs xs' (same_header_parameter x x' (cc)) (comma_pairs SameHeaderParameter header_parameter_tree same_header_parameter xs xs' (cc))

same_direction : (d d' : Direction) → direction_word d ≡ direction_word d' → d ≡ d'
same_direction o.Input o.Input h = refl
same_direction o.Input o.Output h = cc
same_direction o.Output o.Input h = cc
same_direction o.Output o.Output h = refl

-- the kind of a port by its word
abbrev kind_at : Tree → Option PortKind
kind_at (leaf (a_word w.Wire)) = Some k.Wire
kind_at (leaf (a_word w.Reg)) = Some k.Reg
kind_at (leaf (a_word w.Integer)) = Some k.Integer
kind_at _ = None

kind_back : (x : Option PortKind) → kind_at (kind_tree x) ≡ x
kind_back None = refl
kind_back (Some k.Wire) = refl
kind_back (Some k.Reg) = refl
kind_back (Some k.Integer) = refl

same_kind : (x x' : Option PortKind) → kind_tree x ≡ kind_tree x' → x ≡ x'
same_kind x x' h = sym (kind_back x) ∙ ap kind_at h ∙ kind_back x'

same_behind : (n n' : Vec ℕ Global) (v v' : Option Expr) (rest rest' : Tree) → both (name_tree n.items) (both (value_tree v) rest) ≡ both (name_tree n'.items) (both (value_tree v') rest') → (n.items ≡ n'.items) × SameValue v v' × (rest ≡ rest')
same_behind n n' v v' rest rest' h = (cc, same_option v v' (cc), cc)

same_port_form : (f f' : Option PortForm) (n n' : List ℕ) (x x' : Tree) → port_form_tree f (both (name_tree n) x) ≡ port_form_tree f' (both (name_tree n') x') → SameOption SamePortForm f f' × (both (name_tree n) x ≡ both (name_tree n') x')
same_port_form None None n n' x x' h = (both_absent, h)
same_port_form None (Some f') n n' x x' h = cc
same_port_form (Some f) None n n' x x' h = cc
same_port_form (Some f) (Some f') n n' x x' h =
    (both_there f f' (record { direction = same_direction f.direction f'.direction (cc); kind = same_kind f.kind f'.kind (cc); form = same_form f.form f'.form (cc) }), cc)

same_port : (x x' : Port) (rest rest' : Tree) → port_tree x rest ≡ port_tree x' rest' → SamePort x x' × (rest ≡ rest')
same_port x x' rest rest' h =
    let p = same_port_form x.form x'.form x.name.items x'.name.items (both (value_tree x.value) rest) (both (value_tree x'.value) rest') h in
    let q = same_behind x.name x'.name x.value x'.value rest rest' p.1 in
    (record { form = p.0; name = q.0; value = q.1 }, q.2)

same_more_ports : (xs xs' : List Port) → more_ports_tree xs ≡ more_ports_tree xs' → Pairwise SamePort xs xs'
same_more_ports [] [] h = no_pair
same_more_ports [] (x' ∷ xs') h = cc
same_more_ports (x ∷ xs) [] h = cc
same_more_ports (x ∷ xs) (x' ∷ xs') h =
    let p = same_port x x' (more_ports_tree xs) (more_ports_tree xs') (cc) in
    pair_more x x' xs xs' p.0 (same_more_ports xs xs' p.1)

port_form_there : (f : Option PortForm) (n : List ℕ) (x : Tree) → port_form_tree f (both (name_tree n) x) ≡ empty → ⊥
port_form_there None n x h = cc
port_form_there (Some f) n x h = cc

-- a port has a token
port_there : (x : Port) (rest : Tree) → port_tree x rest ≡ empty → ⊥
port_there x rest h = port_form_there x.form x.name.items (both (value_tree x.value) rest) h

same_port_list : (xs xs' : List Port) → ports_tree xs ≡ ports_tree xs' → Pairwise SamePort xs xs'
same_port_list [] [] h = no_pair
same_port_list [] (x' ∷ xs') h = absurd (port_there x' (more_ports_tree xs') (sym h))
same_port_list (x ∷ xs) [] h = absurd (port_there x (more_ports_tree xs) h)
same_port_list (x ∷ xs) (x' ∷ xs') h =
    let p = same_port x x' (more_ports_tree xs) (more_ports_tree xs') h in
    pair_more x x' xs xs' p.0 (same_more_ports xs xs' p.1)

-- the ports of a list
abbrev port_items : Vec Port Global → List Port
port_items xs = xs.items

same_ports : (x x' : Option (Vec Port Global)) → header_ports_tree (option_map port_items x) ≡ header_ports_tree (option_map port_items x') → SameOption SamePorts x x'
same_ports None None h = both_absent
same_ports None (Some xs') h = cc
same_ports (Some xs) None h = cc
same_ports (Some xs) (Some xs') h = both_there xs xs' (same_port_list xs.items xs'.items (cc))

same_end : (v v' : Option Expr) → end_tree v ≡ end_tree v' → SameValue v v'
same_end None None h = same_no_value
same_end None (Some x') h = absurd (expr_there x' (sym h))
same_end (Some x) None h = absurd (expr_there x h)
same_end (Some x) (Some x') h = same_value x x' (same_expr x x' h)

same_connection : (x x' : Connection) → connection_tree x ≡ connection_tree x' → SameConnection x x'
same_connection x x' h = record { name = cc; value = same_end x.value x'.value (cc) }

-- a connection by name is no expression
no_connection : (v : Option Expr) (x : Connection) → end_tree v ≡ connection_tree x → ⊥
no_connection None x h = cc
no_connection (Some v) x h = expr_alone v _ _ _ h

same_connections : (x x' : Connections) → connections_tree x ≡ connections_tree x' → SameConnections x x'
same_connections (c.Ordered x xs) (c.Ordered x' xs') h = same_ordered x x' xs xs' (same_end x x' (cc)) (comma_pairs SameValue end_tree same_end xs.items xs'.items (cc))
same_connections (c.Ordered x xs) (c.Named x' xs') h = absurd (no_connection x x' (cc))
same_connections (c.Named x xs) (c.Ordered x' xs') h = absurd (no_connection x' x (cc))
same_connections (c.Named x xs) (c.Named x' xs') h =
    same_named x x' xs xs' (same_connection x x' (cc)) (comma_pairs SameConnection connection_tree same_connection xs.items xs'.items (cc))

same_overrides : (x x' : Option Connections) → overrides_tree x ≡ overrides_tree x' → SameOption SameConnections x x'
same_overrides None None h = both_absent
same_overrides None (Some x') h = cc
same_overrides (Some x) None h = cc
same_overrides (Some x) (Some x') h = both_there x x' (same_connections x x' (cc))

same_instance : (x x' : Instance) → instance_tree x ≡ instance_tree x' → SameInstance x x'
same_instance x x' h = record { name = cc; ports = same_connections x.ports x'.ports (cc) }

same_names : (n n' : Vec ℕ Global) → name_tree n.items ≡ name_tree n'.items → SameName n n'
same_names n n' h = cc

same_port_item_form : (f f' : PortForm) → direction_word f.direction ≡ direction_word f'.direction → kind_tree f.kind ≡ kind_tree f'.kind → form_tree f.form ≡ form_tree f'.form → SamePortForm f f'
same_port_item_form f f' p q h = record { direction = same_direction f.direction f'.direction p; kind = same_kind f.kind f'.kind q; form = same_form f.form f'.form h }

-- a number for each form of an item
abbrev item_form : Item → ℕ
item_form (i.Port f ns) = 0
item_form (i.Genvar ns) = 1
item_form (i.Wire f ds) = 2
item_form (i.Reg f ds) = 3
item_form (i.Integer ds) = 4
item_form (i.Parameter f xs) = 5
item_form (i.Localparam f xs) = 6
item_form (i.Instances n o xs) = 7
item_form (i.Assign xs) = 8
item_form (i.Initial x) = 9
item_form (i.Always x) = 10

-- the same by the first symbol; of a generate construct a number above them
abbrev form_at : Symbol → ℕ
form_at (a_name n) = 7
form_at (a_word w.Input) = 0
form_at (a_word w.Output) = 0
form_at (a_word w.Genvar) = 1
form_at (a_word w.Wire) = 2
form_at (a_word w.Reg) = 3
form_at (a_word w.Integer) = 4
form_at (a_word w.Parameter) = 5
form_at (a_word w.Localparam) = 6
form_at (a_word w.Assign) = 8
form_at (a_word w.Initial) = 9
form_at (a_word w.Always) = 10
form_at (a_word w.Generate) = 11
form_at (a_word w.For) = 12
form_at (a_word w.If) = 13
form_at _ = 16

direction_form : (d : Direction) → form_at (a_word (direction_word d)) ≡ 0
direction_form o.Input = refl
direction_form o.Output = refl

symbol_form : (x : Item) → form_at (item_symbol x) ≡ item_form x
symbol_form (i.Port f ns) = direction_form f.direction
symbol_form (i.Genvar ns) = refl
symbol_form (i.Wire f ds) = refl
symbol_form (i.Reg f ds) = refl
symbol_form (i.Integer ds) = refl
symbol_form (i.Parameter f xs) = refl
symbol_form (i.Localparam f xs) = refl
symbol_form (i.Instances n o xs) = refl
symbol_form (i.Assign xs) = refl
symbol_form (i.Initial x) = refl
symbol_form (i.Always x) = refl

-- items of one tree begin alike
same_symbols : (x x' : Item) → item_tree x ≡ item_tree x' → item_symbol x ≡ item_symbol x'
same_symbols x x' h = cc

one_item_form : (x x' : Item) → item_tree x ≡ item_tree x' → item_form x ≡ item_form x'
one_item_form x x' h = sym (symbol_form x) ∙ ap form_at (same_symbols x x' h) ∙ symbol_form x'

same_item : (x x' : Item) → item_tree x ≡ item_tree x' → SameItem x x'
same_item (i.Port f ns) (i.Port f' ns') h =
    same_port_item f f' ns ns' (same_port_item_form f f' (cc) (cc) (cc)) (listed_pairs SameName bare_name_tree same_names ns.items ns'.items (cc))
same_item (i.Genvar ns) (i.Genvar ns') h = same_genvars ns ns' (listed_pairs SameName bare_name_tree same_names ns.items ns'.items (cc))
same_item (i.Wire f ds) (i.Wire f' ds') h = same_wire f f' ds ds' (same_form f f' (cc)) (listed_pairs SameDeclarator declarator_tree same_declarator ds.items ds'.items (cc))
same_item (i.Reg f ds) (i.Reg f' ds') h = same_reg f f' ds ds' (same_form f f' (cc)) (listed_pairs SameDeclarator declarator_tree same_declarator ds.items ds'.items (cc))
same_item (i.Integer ds) (i.Integer ds') h = same_integer ds ds' (listed_pairs SameDeclarator declarator_tree same_declarator ds.items ds'.items (cc))
same_item (i.Parameter f xs) (i.Parameter f' xs') h = same_parameters f f' xs xs' (same_parameter_form f f' (cc)) (listed_pairs SameConstant constant_tree same_constant xs.items xs'.items (cc))
same_item (i.Localparam f xs) (i.Localparam f' xs') h = same_localparams f f' xs xs' (same_parameter_form f f' (cc)) (listed_pairs SameConstant constant_tree same_constant xs.items xs'.items (cc))
same_item (i.Instances n o xs) (i.Instances n' o' xs') h =
    same_instances n n' o o' xs xs' (cc) (same_overrides o o' (cc)) (listed_pairs SameInstance instance_tree same_instance xs.items xs'.items (cc))
same_item (i.Assign xs) (i.Assign xs') h = same_assigns xs xs' (listed_pairs SameAssignment net_assignment_tree same_assignment xs.items xs'.items (cc))
same_item (i.Initial x) (i.Initial x') h = same_initial x x' (same_stmt x x' (cc))
same_item (i.Always x) (i.Always x') h = same_always x x' (same_stmt x x' (cc))
same_item x x' h = absurd (eqb-false (item_form x) (item_form x') refl (one_item_form x x' h))

same_header : (h h' : LoopHeader) (x x' : Tree) → loop_tree h x ≡ loop_tree h' x' → SameLoopHeader h h' × (x ≡ x')
same_header h h' x x' e = (
  record {
    name = cc;
    first = same_expr h.first h'.first (cc);
    condition = same_expr h.condition h'.condition (cc);
    next = cc;
    step = same_expr h.step h'.step (cc);
  },
  cc,
)

same_block_name : (n n' : Option (Vec ℕ Global)) → block_name_tree n ≡ block_name_tree n' → SameOption SameName n n'
same_block_name None None h = both_absent
same_block_name None (Some n') h = cc
same_block_name (Some n) None h = cc
same_block_name (Some n) (Some n') h = both_there n n' (cc)

-- a module item of which the other one of its tree says the same
abbrev Settled : ModuleItem → Type 0
Settled x = (x' : ModuleItem) → module_item_tree x ≡ module_item_tree x' → SameModuleItem x x'

abbrev Inner : Type 0
Inner = (x : ModuleItem) × Settled x

-- one layer of a module item as a tree
abbrev layer : ModuleItem-F ModuleItem → Tree
layer x = module_item_step (map-ModuleItem ModuleItem Tree module_item_tree x)

-- one layer without what is settled of the inner ones
abbrev bare : ModuleItem-F Inner → ModuleItem-F ModuleItem
bare y = map-ModuleItem Inner ModuleItem (λ p. p.0) y

opened : (x : ModuleItem) → module_item_tree x ≡ layer (out-ModuleItem x)
opened x = ap module_item_tree (sym (roll-out-ModuleItem x)) ∙ fold-roll-ModuleItem Tree module_item_step (out-ModuleItem x)

same_rows : (xs : List Inner) (xs' : List ModuleItem) → row_of (map module_item_tree (map (λ p. p.0) xs)) ≡ row_of (map module_item_tree xs') → SameModuleItems (map (λ p. p.0) xs) xs'
same_rows [] [] h = same_no_module_item
same_rows [] (x' ∷ xs') h = cc
same_rows (x ∷ xs) [] h = cc
same_rows (x ∷ xs) (x' ∷ xs') h = same_more_module_items _ x' _ xs' (x.1 x' (cc)) (same_rows xs xs' (cc))

-- what stands behind `else` as a tree, and without what is settled of it
abbrev other_trees : Option (Box ModuleItem Global) → Option (Box Tree Global)
other_trees o = former-ModuleItem-If-2-at-2.map ModuleItem Tree module_item_tree o

abbrev bare_other : Option (Box Inner Global) → Option (Box ModuleItem Global)
bare_other o = former-ModuleItem-If-2-at-2.map Inner ModuleItem (λ p. p.0) o

same_others : (o : Option (Box Inner Global)) (o' : Option (Box ModuleItem Global)) → else_tree (other_trees (bare_other o)) ≡ else_tree (other_trees o') → SameOther (bare_other o) o'
same_others None None h = same_no_other
same_others None (Some x') h = cc
same_others (Some x) None h = cc
same_others (Some x) (Some x') h = same_other _ x' (x.value.1 x'.value (cc))

-- a number for each form of a module item
abbrev form : ModuleItem-F ModuleItem → ℕ
form (y.Plain x) = item_form x
form (y.Region xs) = 11
form (y.For h x) = 12
form (y.If e x o) = 13
form y.Null = 14
form (y.Block n xs) = 15

abbrev form_of_tree : Tree → ℕ
form_of_tree (down (both (leaf x) t)) = form_at x
form_of_tree (leaf x) = 14
form_of_tree _ = 15

form_of : (x : ModuleItem-F ModuleItem) → form_of_tree (layer x) ≡ form x
form_of (y.Plain x) = symbol_form x
form_of (y.Region xs) = refl
form_of (y.For h x) = refl
form_of (y.If e x o) = refl
form_of y.Null = refl
form_of (y.Block n xs) = refl

one_form : (x x' : ModuleItem-F ModuleItem) → layer x ≡ layer x' → form x ≡ form x'
one_form x x' h = sym (form_of x) ∙ ap form_of_tree h ∙ form_of x'

-- no generate construct begins as a plain item does
plain_form : (x : Item) → item_form x < 11
plain_form (i.Port f ns) = omega arith
plain_form (i.Genvar ns) = omega arith
plain_form (i.Wire f ds) = omega arith
plain_form (i.Reg f ds) = omega arith
plain_form (i.Integer ds) = omega arith
plain_form (i.Parameter f xs) = omega arith
plain_form (i.Localparam f xs) = omega arith
plain_form (i.Instances n o xs) = omega arith
plain_form (i.Assign xs) = omega arith
plain_form (i.Initial x) = omega arith
plain_form (i.Always x) = omega arith

not_plain : {A : Type 0} (x : Item) (n : ℕ) → 11 ≤ n → item_form x ≡ n → A
not_plain x n h e = let p : item_form x < 11 = plain_form x in let none : ⊥ = omega (arith, p, h, e) in absurd none

-- one layer each
same_layers : (z : ModuleItem-F Inner) (x' : ModuleItem-F ModuleItem) → layer (bare z) ≡ layer x' → SameModuleItem (roll-ModuleItem (bare z)) (roll-ModuleItem x')
same_layers (y.Plain x) (y.Plain x') h = rw (rolls-Plain x, rolls-Plain x') (same_plain x x' (same_item x x' h))
same_layers (y.Region xs) (y.Region xs') h = rw (rolls-Region _, rolls-Region xs') (same_region _ xs' (same_rows xs.items xs'.items (two _ _ _ _ (headed _ _ _ _ h).1).0))
same_layers (y.For k x) (y.For k' x') h =
    let e = same_header k k' _ _ (headed _ _ _ _ h).1 in
    rw (rolls-For k _, rolls-For k' x') (same_generate_loop k k' _ x' e.0 (x.value.1 x'.value e.1))
same_layers (y.If e x o) (y.If e' x' o') h =
    let g = two _ _ _ _ (two _ _ _ _ (headed _ _ _ _ h).1).1 in
    let b = two _ _ _ _ (two _ _ _ _ g.1).1 in
    rw (rolls-If e _ _, rolls-If e' x' o') (same_generate_if e e' _ x' _ o' (same_expr e e' g.0) (x.value.1 x'.value b.0) (same_others o o' b.1))
same_layers y.Null y.Null h = rw rolls-Null same_no_content
same_layers (y.Block n xs) (y.Block n' xs') h =
    let b = two _ _ _ _ (two _ _ _ _ h).1 in
    rw (rolls-Block n _, rolls-Block n' xs') (same_generate_block n n' _ xs' (same_block_name n n' b.0) (same_rows xs.items xs'.items (two _ _ _ _ b.1).0))
same_layers (y.Plain x) (y.Region xs') h = not_plain x 11 (omega arith) (one_form (y.Plain x) (y.Region xs') h)
same_layers (y.Plain x) (y.For k' x') h = not_plain x 12 (omega arith) (one_form (y.Plain x) (y.For k' x') h)
same_layers (y.Plain x) (y.If e' x' o') h = not_plain x 13 (omega arith) (one_form (y.Plain x) (y.If e' x' o') h)
same_layers (y.Plain x) y.Null h = not_plain x 14 (omega arith) (one_form (y.Plain x) y.Null h)
same_layers (y.Plain x) (y.Block n' xs') h = not_plain x 15 (omega arith) (one_form (y.Plain x) (y.Block n' xs') h)
same_layers (y.Region xs) (y.Plain x') h = not_plain x' 11 (omega arith) (sym (one_form (bare (y.Region xs)) (y.Plain x') h))
same_layers (y.For k x) (y.Plain x') h = not_plain x' 12 (omega arith) (sym (one_form (bare (y.For k x)) (y.Plain x') h))
same_layers (y.If e x o) (y.Plain x') h = not_plain x' 13 (omega arith) (sym (one_form (bare (y.If e x o)) (y.Plain x') h))
same_layers y.Null (y.Plain x') h = not_plain x' 14 (omega arith) (sym (one_form y.Null (y.Plain x') h))
same_layers (y.Block n xs) (y.Plain x') h = not_plain x' 15 (omega arith) (sym (one_form (bare (y.Block n xs)) (y.Plain x') h))
same_layers z x' h = absurd (eqb-false (form (bare z)) (form x') refl (one_form (bare z) x' h))

settled : (x : ModuleItem-F ModuleItem) (z : ModuleItem-F Inner) → bare z ≡ x → Settled (roll-ModuleItem x)
settled x z is x' h =
    subst (λ (u : ModuleItem). SameModuleItem (roll-ModuleItem x) u) (roll-out-ModuleItem x')
    (subst (λ (u : ModuleItem-F ModuleItem). SameModuleItem (roll-ModuleItem u) (roll-ModuleItem (out-ModuleItem x'))) is
    (same_layers z (out-ModuleItem x') (ap layer is ∙ sym (fold-roll-ModuleItem Tree module_item_step x) ∙ h ∙ opened x')))

same_module_item : (x x' : ModuleItem) → module_item_tree x ≡ module_item_tree x' → SameModuleItem x x'
same_module_item = ind-ModuleItem Settled settled

same_module_rows : (xs xs' : List ModuleItem) → row_of (map module_item_tree xs) ≡ row_of (map module_item_tree xs') → SameModuleItems xs xs'
same_module_rows [] [] h = same_no_module_item
same_module_rows [] (x' ∷ xs') h = cc
same_module_rows (x ∷ xs) [] h = cc
same_module_rows (x ∷ xs) (x' ∷ xs') h = same_more_module_items x x' xs xs' (same_module_item x x' (cc)) (same_module_rows xs xs' (cc))

-- Modules without their directives of one tree, and the same directives, say the same.
same_module : (x x' : Module) → x.directives.items ≡ x'.directives.items → module_tree x ≡ module_tree x' → SameModule x x'
same_module x x' d h = record {
  directives = d;
  name = cc;
  parameters = same_header_parameters x.parameters.items x'.parameters.items (cc);
  ports = same_ports x.ports x'.ports (cc);
  items = same_module_rows x.items.items x'.items.items (cc);
}

-- modules behind their directives, and directives behind them, as one row
abbrev parts_of : List Module → List Directive → List Tree
parts_of xs ds = flat_map directed_trees xs ++ map directive_tree ds

-- rows of one tree have the same parts
same_trees : (xs xs' : List Tree) → row_of xs ≡ row_of xs' → xs ≡ xs'
same_trees [] [] h = refl
same_trees [] (x' ∷ xs') h = cc
same_trees (x ∷ xs) [] h = cc
same_trees (x ∷ xs) (x' ∷ xs') h = let e : xs ≡ xs' = same_trees xs xs' (cc) in let p : x ≡ x' = cc in cc

same_head : (bs bs' : List Directive) (x x' : Module) (rest rest' : List Tree) → map directive_tree bs ++ module_tree x ∷ rest ≡ map directive_tree bs' ++ module_tree x' ∷ rest' → (bs ≡ bs') × (module_tree x ≡ module_tree x') × (rest ≡ rest')
same_head [] [] x x' rest rest' h = (refl, cc, cc)
same_head [] (b' ∷ bs') x x' rest rest' h = cc
same_head (b ∷ bs) [] x x' rest rest' h = cc
same_head (b ∷ bs) (b' ∷ bs') x x' rest rest' h = let e = same_head bs bs' x x' rest rest' (cc) in let p : b ≡ b' = cc in let q : bs ≡ bs' = e.0 in (cc, e.1, e.2)

no_head : {A : Type 0} (ds bs : List Directive) (x : Module) (rest : List Tree) → map directive_tree ds ≡ map directive_tree bs ++ module_tree x ∷ rest → A
no_head [] [] x rest h = cc
no_head [] (b ∷ bs) x rest h = cc
no_head (d ∷ ds) [] x rest h = cc
no_head (d ∷ ds) (b ∷ bs) x rest h = no_head ds bs x rest (cc)

same_directives : (ds ds' : List Directive) → map directive_tree ds ≡ map directive_tree ds' → ds ≡ ds'
same_directives [] [] h = refl
same_directives [] (d' ∷ ds') h = cc
same_directives (d ∷ ds) [] h = cc
same_directives (d ∷ ds) (d' ∷ ds') h = let e : ds ≡ ds' = same_directives ds ds' (cc) in let p : d ≡ d' = cc in cc

-- one module before others, as a row
parts_more : (x : Module) (xs : List Module) (ds : List Directive) → parts_of (x ∷ xs) ds ≡ map directive_tree x.directives.items ++ module_tree x ∷ parts_of xs ds
parts_more x xs ds =
    append_assoc (directed_trees x) (flat_map directed_trees xs) (map directive_tree ds)
    ∙ append_assoc (map directive_tree x.directives.items) (module_tree x ∷ []) (parts_of xs ds)

same_parts : (xs xs' : List Module) (ds ds' : List Directive) → parts_of xs ds ≡ parts_of xs' ds' → Pairwise SameModule xs xs' × (ds ≡ ds')
same_parts [] [] ds ds' h = (no_pair, same_directives ds ds' h)
same_parts [] (x' ∷ xs') ds ds' h = no_head ds x'.directives.items x' (parts_of xs' ds') (h ∙ parts_more x' xs' ds')
same_parts (x ∷ xs) [] ds ds' h = no_head ds' x.directives.items x (parts_of xs ds) (sym h ∙ parts_more x xs ds)
same_parts (x ∷ xs) (x' ∷ xs') ds ds' h =
    let e = same_head x.directives.items x'.directives.items x x' (parts_of xs ds) (parts_of xs' ds') (sym (parts_more x xs ds) ∙ h ∙ parts_more x' xs' ds') in
    let r = same_parts xs xs' ds ds' e.2 in
    (pair_more x x' xs xs' (same_module x x' e.0 e.1) r.0, r.1)

-- Sources of one tree say the same.
pub same_source : (x x' : Source) → source_tree x ≡ source_tree x' → SameSource x x'
same_source x x' h =
    let r = same_parts x.modules.items x'.modules.items x.directives.items x'.directives.items (same_trees _ _ h) in
    record { modules = r.0; directives = r.1 }

-- Sources of the same symbols say the same.
pub one_source : (ts : List Symbol) (s s' : Source) → Derives ts s → Derives ts s' → SameSource s s'
one_source ts s s' d d' =
    let e : tokens (source_tree s) ≡ tokens (source_tree s') = sym d.text ∙ d'.text in
    same_source s s' (sym (unique d.source.is d'.source.is [] (ap (λ u. u ++ []) e) refl))
