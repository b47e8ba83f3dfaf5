-- A source says the same as itself.
use Rattle.std.proofs.Common.{◌≡◌, ℕ, List, [], ◌∷◌, Option, Some, None, map, refl, subst}
use Rattle.vs_design.specs.vs_logic4.specs.declared.operators.Binary.{Binary}
use Rattle.vs_syntax.specs.declared.tree.Expr.{Expr, Expr-F, roll-Expr, ind-Expr, map-Expr}
use Rattle.vs_syntax.specs.declared.tree.Expr.TheShapes.{former-Expr-Select-1-at-4, former-Expr-Select-1-at-5}
use Rattle.vs_syntax.specs.declared.tree.Expr.TheOpen as f
use Rattle.vs_syntax.specs.declared.tree.PartSelect.{PartSelect}
use Rattle.vs_syntax.specs.declared.tree.Left.{Left, Left-F, roll-Left, ind-Left, map-Left}
use Rattle.vs_syntax.specs.declared.tree.Left.TheOpen as h
use Rattle.vs_syntax.specs.declared.tree.Left.TheVariants.{rolls-Name as rolls-Place, rolls-Concat as rolls-Places}
use Rattle.vs_syntax.specs.declared.tree.Expr.TheVariants.{rolls-Number, rolls-Name, rolls-Select, rolls-Group, rolls-Unary, rolls-Chain, rolls-Choice, rolls-Concat, rolls-Repeat, rolls-Cast}
use Rattle.vs_syntax.specs.declared.tree.Stmt.{Stmt, Stmt-F, roll-Stmt, ind-Stmt, map-Stmt}
use Rattle.vs_syntax.specs.declared.tree.Stmt.TheOpen as g
use Rattle.vs_syntax.specs.declared.tree.Stmt.TheShapes.{former-Stmt-If-2-at-2}
use Rattle.vs_syntax.specs.declared.tree.Stmt.TheVariants.{rolls-Null, rolls-Assign, rolls-Later, rolls-Block, rolls-Named, rolls-If, rolls-Case, rolls-For, rolls-While, rolls-Repeat as rolls-Times, rolls-Forever, rolls-Delay, rolls-Event, rolls-Print, rolls-Finish, rolls-Dump}
use Rattle.vs_syntax.specs.declared.tree.CaseLabel.{CaseLabel}
use Rattle.vs_syntax.specs.declared.tree.CaseLabel.TheVariants as b
use Rattle.vs_syntax.specs.declared.tree.DelayValue.{DelayValue}
use Rattle.vs_syntax.specs.declared.tree.DelayValue.TheVariants as v
use Rattle.vs_syntax.specs.declared.tree.EventControl.{EventControl}
use Rattle.vs_syntax.specs.declared.tree.EventControl.TheVariants as w
use Rattle.vs_syntax.specs.declared.tree.EventExpr.{EventExpr}
use Rattle.vs_syntax.specs.declared.tree.Argument.{Argument}
use Rattle.vs_syntax.specs.declared.tree.Argument.TheVariants as arg
use Rattle.vs_syntax.specs.declared.tree.PrintArguments.{PrintArguments}
use Rattle.vs_syntax.specs.declared.tree.PrintArguments.TheVariants as print
use Rattle.vs_syntax.specs.declared.tree.DumpArgument.{DumpArgument}
use Rattle.vs_syntax.specs.declared.tree.DumpArgument.TheVariants as dump
use Rattle.vs_syntax.specs.declared.tree.Declarator.{Declarator}
use Rattle.vs_syntax.specs.declared.tree.Form.{Form}
use Rattle.vs_syntax.specs.declared.tree.Range.{Range}
use Rattle.vs_syntax.specs.declared.tree.Local.{Local}
use Rattle.vs_syntax.specs.declared.tree.LocalDeclaration.{LocalDeclaration}
use Rattle.vs_syntax.specs.declared.tree.LocalDeclaration.TheVariants as loc
use Rattle.vs_syntax.specs.declared.tree.LoopHeader.{LoopHeader}
use Rattle.vs_syntax.specs.declared.tree.ModuleItem.{ModuleItem, ModuleItem-F, roll-ModuleItem, ind-ModuleItem, map-ModuleItem}
use Rattle.vs_syntax.specs.declared.tree.ModuleItem.TheOpen as mi
use Rattle.vs_syntax.specs.declared.tree.ModuleItem.TheShapes.{former-ModuleItem-If-2-at-2}
use Rattle.vs_syntax.specs.declared.tree.ModuleItem.TheVariants.{rolls-Plain, rolls-Region, rolls-For as rolls-Loop, rolls-If as rolls-Condition, rolls-Null as rolls-Nothing, rolls-Block as rolls-Generated}
use Rattle.vs_syntax.specs.declared.tree.Item.{Item}
use Rattle.vs_syntax.specs.declared.tree.Item.TheVariants as i
use Rattle.vs_syntax.specs.declared.tree.Module.{Module}
use Rattle.std.specs.declared.vec.Vec.{Vec}
use Rattle.std.specs.declared.boxed.Box.{Box}
use Rattle.std.specs.declared.alloc.Global.{Global}
use Rattle.vs_syntax.specs.declared.tree.Constant.{Constant}
use Rattle.vs_syntax.specs.declared.tree.Connection.{Connection}
use Rattle.vs_syntax.specs.declared.tree.Connections.{Connections}
use Rattle.vs_syntax.specs.declared.tree.Connections.TheVariants as c
use Rattle.vs_syntax.specs.declared.tree.HeaderParameter.{HeaderParameter}
use Rattle.vs_syntax.specs.declared.tree.Instance.{Instance}
use Rattle.vs_syntax.specs.declared.tree.ParameterForm.{ParameterForm}
use Rattle.vs_syntax.specs.declared.tree.ParameterForm.TheVariants as q
use Rattle.vs_syntax.specs.declared.tree.Port.{Port}
use Rattle.vs_syntax.specs.declared.tree.PortForm.{PortForm}
use Rattle.vs_syntax.specs.Same.{SameExpr, same_number, same_name, same_select, SameSelects, same_no_select, same_more_selects, SameSecond, same_no_second, same_second, SameLeft, same_place, same_places, SameLefts, same_no_left, same_more_lefts, same_group, same_unary, same_chain, same_choice, same_concat, same_repeat, same_cast, SameLinks, same_no_link, same_link, SamePairs, same_no_pair, same_pair, SameExprs, same_no_expr, same_more_exprs, SameStmt, same_null, same_assign, same_later, same_block, same_named_block, same_if, same_case, same_for, same_while, same_repeated, same_forever, same_delay, same_event, SameElse, same_no_else, same_else, SameCaseItems, same_no_item, same_more_items, SameDelay, same_delay_number, same_delay_name, same_delay_group, SameEventExpr, SameOtherEvent, SameEvent, same_star, same_grouped_star, same_event_name, same_terms, SameLabel, same_expressions, same_default, SameStmts, same_no_stmt, same_more_stmts, Pairwise, no_pair, pair_more, SameValue, same_no_value, same_value, SameDeclarator, SameAssignment, SameRange, same_no_range, same_range, SameForm, SameName, SameLocal, SameLocals, same_local_reg, same_local_integer, SameItem, same_port_item, same_genvars, SameLoopHeader, SameModuleItem, same_plain, same_region, same_generate_loop, same_generate_if, same_no_content, same_generate_block, SameOther, same_no_other, same_other, SameModuleItems, same_no_module_item, same_more_module_items, same_wire, same_reg, same_integer, same_assigns, same_initial, same_always, SameModule, SameOption, both_absent, both_there, SameParameterForm, same_integer_word, same_vector, SameConstant, SameHeaderParameter, SamePortForm, SamePort, SamePorts, SameConnection, SameConnections, same_ordered, same_named, SameInstance, same_parameters, same_localparams, same_instances, SameArgument, same_value_argument, same_time_argument, SamePrint, same_missing, same_empty, same_printed, SameDumpArgument, same_dump_text, same_dump_value, SameDump, same_print, same_finish, same_dump}

-- ---- expressions

abbrev InnerExpr : Type 0
InnerExpr = (x : Expr) × SameExpr x x

abbrev bare_expr : Expr-F InnerExpr → Expr-F Expr
bare_expr y = map-Expr InnerExpr Expr (λ p. p.0) y

second_itself : (o : Option (PartSelect × InnerExpr)) → SameSecond (former-Expr-Select-1-at-4.map InnerExpr Expr (λ p. p.0) o) (former-Expr-Select-1-at-4.map InnerExpr Expr (λ p. p.0) o)
second_itself None = same_no_second
second_itself (Some x) = same_second _ _ refl x.1.1

inner_selects : (xs : List (InnerExpr × Option (PartSelect × InnerExpr))) → SameSelects (map (λ x. former-Expr-Select-1-at-5.map InnerExpr Expr (λ p. p.0) x) xs) (map (λ x. former-Expr-Select-1-at-5.map InnerExpr Expr (λ p. p.0) x) xs)
inner_selects [] = same_no_select
inner_selects (x ∷ xs) = same_more_selects _ _ _ _ x.0.1 (second_itself x.1) (inner_selects xs)

links_themselves : (ls : List (Binary × InnerExpr)) → SameLinks (map (λ l. (l.0, l.1.0)) ls) (map (λ l. (l.0, l.1.0)) ls)
links_themselves [] = same_no_link
links_themselves (l ∷ ls) = same_link _ _ _ _ refl l.1.1 (links_themselves ls)

pairs_themselves : (ps : List (InnerExpr × InnerExpr)) → SamePairs (map (λ p. (p.0.0, p.1.0)) ps) (map (λ p. (p.0.0, p.1.0)) ps)
pairs_themselves [] = same_no_pair
pairs_themselves (p ∷ ps) = same_pair _ _ _ _ p.0.1 p.1.1 (pairs_themselves ps)

exprs_themselves : (xs : List InnerExpr) → SameExprs (map (λ p. p.0) xs) (map (λ p. p.0) xs)
exprs_themselves [] = same_no_expr
exprs_themselves (x ∷ xs) = same_more_exprs _ _ _ _ x.1 (exprs_themselves xs)

expr_layer : (y : Expr-F InnerExpr) → SameExpr (roll-Expr (bare_expr y)) (roll-Expr (bare_expr y))
expr_layer (f.Number l) = rw (rolls-Number l) (same_number l)
expr_layer (f.Name n) = rw (rolls-Name n) (same_name n n refl)
expr_layer (f.Select n ss) = rw (rolls-Select n _) (same_select n n _ _ refl (inner_selects ss.items))
expr_layer (f.Group x) = rw (rolls-Group _) (same_group _ _ x.value.1)
expr_layer (f.Unary op x) = rw (rolls-Unary op _) (same_unary op _ _ x.value.1)
expr_layer (f.Chain x ls) = rw (rolls-Chain _ _) (same_chain _ _ _ _ x.value.1 (links_themselves ls.items))
expr_layer (f.Choice ps x) = rw (rolls-Choice _ _) (same_choice _ _ _ _ (pairs_themselves ps.items) x.value.1)
expr_layer (f.Concat x xs) = rw (rolls-Concat _ _) (same_concat _ _ _ _ x.value.1 (exprs_themselves xs.items))
expr_layer (f.Repeat n x xs) = rw (rolls-Repeat _ _ _) (same_repeat _ _ _ _ _ _ n.value.1 x.value.1 (exprs_themselves xs.items))
expr_layer (f.Cast s x) = rw (rolls-Cast s _) (same_cast s _ _ x.value.1)

expr_settled : (x : Expr-F Expr) (y : Expr-F InnerExpr) → bare_expr y ≡ x → SameExpr (roll-Expr x) (roll-Expr x)
expr_settled x y is = subst (λ (u : Expr-F Expr). SameExpr (roll-Expr u) (roll-Expr u)) is (expr_layer y)

expr_itself : (x : Expr) → SameExpr x x
expr_itself = ind-Expr (λ x. SameExpr x x) expr_settled

-- ---- left sides

selects_themselves : (xs : List (Expr × Option (PartSelect × Expr))) → SameSelects xs xs
selects_themselves [] = same_no_select
selects_themselves (x ∷ xs) = same_more_selects x x xs xs (expr_itself x.0) (second x.1) (selects_themselves xs)
  where
    second : (o : Option (PartSelect × Expr)) → SameSecond o o
    second None = same_no_second
    second (Some y) = same_second y y refl (expr_itself y.1)

abbrev InnerLeft : Type 0
InnerLeft = (x : Left) × SameLeft x x

abbrev bare_left : Left-F InnerLeft → Left-F Left
bare_left y = map-Left InnerLeft Left (λ p. p.0) y

lefts_themselves : (xs : List InnerLeft) → SameLefts (map (λ p. p.0) xs) (map (λ p. p.0) xs)
lefts_themselves [] = same_no_left
lefts_themselves (x ∷ xs) = same_more_lefts _ _ _ _ x.1 (lefts_themselves xs)

left_layer : (y : Left-F InnerLeft) → SameLeft (roll-Left (bare_left y)) (roll-Left (bare_left y))
left_layer (h.Name n ss) = rw (rolls-Place n ss) (same_place n n ss ss refl (selects_themselves ss.items))
left_layer (h.Concat x xs) = rw (rolls-Places _ _) (same_places _ _ _ _ x.value.1 (lefts_themselves xs.items))

left_settled : (x : Left-F Left) (y : Left-F InnerLeft) → bare_left y ≡ x → SameLeft (roll-Left x) (roll-Left x)
left_settled x y is = subst (λ (u : Left-F Left). SameLeft (roll-Left u) (roll-Left u)) is (left_layer y)

left_itself : (x : Left) → SameLeft x x
left_itself = ind-Left (λ x. SameLeft x x) left_settled

-- ---- delays, event controls and labels

all_themselves : {A : Type 0} (R : A → A → Type 0) → ((x : A) → R x x) → (xs : List A) → Pairwise R xs xs
all_themselves R h [] = no_pair
all_themselves R h (x ∷ xs) = pair_more x x xs xs (h x) (all_themselves R h xs)

delay_itself : (l : DelayValue) → SameDelay l l
delay_itself (v.Number l) = same_delay_number l
delay_itself (v.Name n) = same_delay_name n n refl
delay_itself (v.Group e) = same_delay_group e e (expr_itself e.value)

term_itself : (t : EventExpr) → SameEventExpr t t
term_itself t = record { edge = refl; name = refl; selects = selects_themselves t.selects.items }

event_itself : (e : EventControl) → SameEvent e e
event_itself w.Star = same_star
event_itself w.GroupedStar = same_grouped_star
event_itself (w.Name n) = same_event_name n n refl
event_itself (w.Terms t ts) = same_terms t t ts ts (term_itself t.value) (all_themselves SameOtherEvent (λ x. record { separator = refl; event = term_itself x.1 }) ts.items)

labels_themselves : (es : List Expr) → SameExprs es es
labels_themselves [] = same_no_expr
labels_themselves (e ∷ es) = same_more_exprs e e es es (expr_itself e) (labels_themselves es)

label_itself : (l : CaseLabel) → SameLabel l l
label_itself (b.Expressions e es) = same_expressions e e es es (expr_itself e) (labels_themselves es.items)
label_itself (b.Default colon) = same_default colon

option_itself : {A : Type 0} (R : A → A → Type 0) → ((x : A) → R x x) → (o : Option A) → SameOption R o o
option_itself R h None = both_absent
option_itself R h (Some x) = both_there x x (h x)

argument_itself : (x : Argument) → SameArgument x x
argument_itself (arg.Value e) = same_value_argument e e (expr_itself e)
argument_itself arg.Time = same_time_argument

print_itself : (x : PrintArguments) → SamePrint x x
print_itself print.Missing = same_missing
print_itself print.Empty = same_empty
print_itself (print.Text n xs) = same_printed n n xs xs refl (all_themselves SameArgument argument_itself xs.items)

dumped_itself : (x : DumpArgument) → SameDumpArgument x x
dumped_itself (dump.Text n) = same_dump_text n n refl
dumped_itself (dump.Value e) = same_dump_value e e (expr_itself e.value)

dump_itself : (xs : DumpArgument × Vec DumpArgument Global) → SameDump xs xs
dump_itself xs = record { first = dumped_itself xs.0; others = all_themselves SameDumpArgument dumped_itself xs.1.items }

-- ---- declarations

value_itself : (o : Option Expr) → SameValue o o
value_itself None = same_no_value
value_itself (Some x) = same_value x x (expr_itself x)

range_itself : (o : Option Range) → SameRange o o
range_itself None = same_no_range
range_itself (Some r) = same_range r r (expr_itself r.left) (expr_itself r.right)

form_itself : (f : Form) → SameForm f f
form_itself f = record { signed = refl; range = range_itself f.range }

locals_themselves : (xs : List Local) → Pairwise SameLocal xs xs
locals_themselves xs = all_themselves SameLocal (λ x. record { name = refl; words = range_itself x.words }) xs

declaration_itself : (x : LocalDeclaration) → SameLocals x x
declaration_itself (loc.Reg f xs) = same_local_reg f f xs xs (form_itself f) (locals_themselves xs.items)
declaration_itself (loc.Integer xs) = same_local_integer xs xs (locals_themselves xs.items)

-- ---- statements

abbrev InnerStmt : Type 0
InnerStmt = (x : Stmt) × SameStmt x x

abbrev bare_stmt : Stmt-F InnerStmt → Stmt-F Stmt
bare_stmt y = map-Stmt InnerStmt Stmt (λ p. p.0) y

stmts_themselves : (xs : List InnerStmt) → SameStmts (map (λ p. p.0) xs) (map (λ p. p.0) xs)
stmts_themselves [] = same_no_stmt
stmts_themselves (x ∷ xs) = same_more_stmts _ _ _ _ x.1 (stmts_themselves xs)

else_itself : (o : Option (Box InnerStmt Global)) → SameElse (former-Stmt-If-2-at-2.map InnerStmt Stmt (λ p. p.0) o) (former-Stmt-If-2-at-2.map InnerStmt Stmt (λ p. p.0) o)
else_itself None = same_no_else
else_itself (Some x) = same_else _ _ x.value.1

items_themselves : (xs : List (CaseLabel × InnerStmt)) → SameCaseItems (map (λ x. (x.0, x.1.0)) xs) (map (λ x. (x.0, x.1.0)) xs)
items_themselves [] = same_no_item
items_themselves (x ∷ xs) = same_more_items _ _ _ _ (label_itself x.0) x.1.1 (items_themselves xs)

stmt_layer : (y : Stmt-F InnerStmt) → SameStmt (roll-Stmt (bare_stmt y)) (roll-Stmt (bare_stmt y))
stmt_layer g.Null = rw rolls-Null same_null
stmt_layer (g.Assign n v) = rw (rolls-Assign n v) (same_assign n n v v (left_itself n.value) (expr_itself v))
stmt_layer (g.Later n l v) = rw (rolls-Later n l v) (same_later n n l l v v (left_itself n.value) (option_itself SameDelay delay_itself l) (expr_itself v.value))
stmt_layer (g.Block xs) = rw (rolls-Block _) (same_block _ _ (stmts_themselves xs.items))
stmt_layer (g.Named n ls xs) =
    rw (rolls-Named n ls _) (same_named_block n n ls ls _ _ refl (all_themselves SameLocals declaration_itself ls.items) (stmts_themselves xs.items))
stmt_layer (g.If e x o) = rw (rolls-If e _ _) (same_if e e _ _ _ _ (expr_itself e.value) x.value.1 (else_itself o))
stmt_layer (g.Case kind e xs) = rw (rolls-Case kind e _) (same_case kind e e _ _ (expr_itself e.value) (items_themselves xs.items))
stmt_layer (g.For head x) =
    rw (rolls-For head _)
    (same_for head head _ _ (left_itself head.value.first.0) (expr_itself head.value.first.1) (expr_itself head.value.condition) (left_itself head.value.step.0) (expr_itself head.value.step.1) x.value.1)
stmt_layer (g.While e x) = rw (rolls-While e _) (same_while e e _ _ (expr_itself e) x.value.1)
stmt_layer (g.Repeat e x) = rw (rolls-Times e _) (same_repeated e e _ _ (expr_itself e) x.value.1)
stmt_layer (g.Forever x) = rw (rolls-Forever _) (same_forever _ _ x.value.1)
stmt_layer (g.Delay l x) = rw (rolls-Delay l _) (same_delay l l _ _ (delay_itself l) x.value.1)
stmt_layer (g.Event e x) = rw (rolls-Event e _) (same_event e e _ _ (event_itself e) x.value.1)
stmt_layer (g.Print task xs) = rw (rolls-Print task xs) (same_print task xs xs (print_itself xs))
stmt_layer (g.Finish n) = rw (rolls-Finish n) (same_finish n)
stmt_layer (g.Dump task xs) = rw (rolls-Dump task xs) (same_dump task xs xs (option_itself SameDump dump_itself xs))

stmt_settled : (x : Stmt-F Stmt) (y : Stmt-F InnerStmt) → bare_stmt y ≡ x → SameStmt (roll-Stmt x) (roll-Stmt x)
stmt_settled x y is = subst (λ (u : Stmt-F Stmt). SameStmt (roll-Stmt u) (roll-Stmt u)) is (stmt_layer y)

stmt_itself : (x : Stmt) → SameStmt x x
stmt_itself = ind-Stmt (λ x. SameStmt x x) stmt_settled

-- ---- modules

declarators_themselves : (ds : List Declarator) → Pairwise SameDeclarator ds ds
declarators_themselves ds = all_themselves SameDeclarator (λ d. record { name = refl; words = range_itself d.words; value = value_itself d.value }) ds

parameter_form_itself : (f : ParameterForm) → SameParameterForm f f
parameter_form_itself q.Integer = same_integer_word
parameter_form_itself (q.Vector f) = same_vector f f (form_itself f)

constants_themselves : (xs : List Constant) → Pairwise SameConstant xs xs
constants_themselves xs = all_themselves SameConstant (λ x. record { name = refl; value = expr_itself x.value }) xs

connection_itself : (x : Connection) → SameConnection x x
connection_itself x = record { name = refl; value = value_itself x.value }

connections_themselves : (x : Connections) → SameConnections x x
connections_themselves (c.Ordered x xs) = same_ordered x x xs xs (value_itself x) (all_themselves SameValue value_itself xs.items)
connections_themselves (c.Named x xs) = same_named x x xs xs (connection_itself x) (all_themselves SameConnection connection_itself xs.items)

instances_themselves : (xs : List Instance) → Pairwise SameInstance xs xs
instances_themselves xs = all_themselves SameInstance (λ x. record { name = refl; ports = connections_themselves x.ports }) xs

port_form_itself : (f : PortForm) → SamePortForm f f
port_form_itself f = record { direction = refl; kind = refl; form = form_itself f.form }

ports_themselves : (xs : Vec Port Global) → SamePorts xs xs
ports_themselves xs = all_themselves SamePort (λ x. record { form = option_itself SamePortForm port_form_itself x.form; name = refl; value = value_itself x.value }) xs.items

header_itself : (xs : List HeaderParameter) → Pairwise SameHeaderParameter xs xs
header_itself xs = all_themselves SameHeaderParameter (λ x. record { form = option_itself SameParameterForm parameter_form_itself x.form; name = refl; value = expr_itself x.value }) xs

names_themselves : (ns : List (Vec ℕ Global)) → Pairwise SameName ns ns
names_themselves ns = all_themselves SameName (λ n. refl) ns

item_itself : (x : Item) → SameItem x x
item_itself (i.Port f ns) = same_port_item f f ns ns (port_form_itself f) (names_themselves ns.items)
item_itself (i.Genvar ns) = same_genvars ns ns (names_themselves ns.items)
item_itself (i.Wire f ds) = same_wire f f ds ds (form_itself f) (declarators_themselves ds.items)
item_itself (i.Reg f ds) = same_reg f f ds ds (form_itself f) (declarators_themselves ds.items)
item_itself (i.Integer ds) = same_integer ds ds (declarators_themselves ds.items)
item_itself (i.Parameter f xs) = same_parameters f f xs xs (parameter_form_itself f) (constants_themselves xs.items)
item_itself (i.Localparam f xs) = same_localparams f f xs xs (parameter_form_itself f) (constants_themselves xs.items)
item_itself (i.Instances n o xs) = same_instances n n o o xs xs refl (option_itself SameConnections connections_themselves o) (instances_themselves xs.items)
item_itself (i.Assign xs) = same_assigns xs xs (all_themselves SameAssignment (λ a. record { target = left_itself a.target; value = expr_itself a.value }) xs.items)
item_itself (i.Initial x) = same_initial x x (stmt_itself x)
item_itself (i.Always x) = same_always x x (stmt_itself x)

header_of_loop_itself : (h : LoopHeader) → SameLoopHeader h h
header_of_loop_itself h = record { name = refl; first = expr_itself h.first; condition = expr_itself h.condition; next = refl; step = expr_itself h.step }

-- ---- module items

abbrev InnerItem : Type 0
InnerItem = (x : ModuleItem) × SameModuleItem x x

abbrev bare_item : ModuleItem-F InnerItem → ModuleItem-F ModuleItem
bare_item y = map-ModuleItem InnerItem ModuleItem (λ p. p.0) y

inner_items : (xs : List InnerItem) → SameModuleItems (map (λ p. p.0) xs) (map (λ p. p.0) xs)
inner_items [] = same_no_module_item
inner_items (x ∷ xs) = same_more_module_items _ _ _ _ x.1 (inner_items xs)

other_itself : (o : Option (Box InnerItem Global)) → SameOther (former-ModuleItem-If-2-at-2.map InnerItem ModuleItem (λ p. p.0) o) (former-ModuleItem-If-2-at-2.map InnerItem ModuleItem (λ p. p.0) o)
other_itself None = same_no_other
other_itself (Some x) = same_other _ _ x.value.1

item_layer : (y : ModuleItem-F InnerItem) → SameModuleItem (roll-ModuleItem (bare_item y)) (roll-ModuleItem (bare_item y))
item_layer (mi.Plain x) = rw (rolls-Plain x) (same_plain x x (item_itself x))
item_layer (mi.Region xs) = rw (rolls-Region _) (same_region _ _ (inner_items xs.items))
item_layer (mi.For h x) = rw (rolls-Loop h _) (same_generate_loop h h _ _ (header_of_loop_itself h) x.value.1)
item_layer (mi.If e x o) = rw (rolls-Condition e _ _) (same_generate_if e e _ _ _ _ (expr_itself e) x.value.1 (other_itself o))
item_layer mi.Null = rw rolls-Nothing same_no_content
item_layer (mi.Block n xs) = rw (rolls-Generated n _) (same_generate_block n n _ _ (option_itself SameName (λ m. refl) n) (inner_items xs.items))

item_settled : (x : ModuleItem-F ModuleItem) (y : ModuleItem-F InnerItem) → bare_item y ≡ x → SameModuleItem (roll-ModuleItem x) (roll-ModuleItem x)
item_settled x y is = subst (λ (u : ModuleItem-F ModuleItem). SameModuleItem (roll-ModuleItem u) (roll-ModuleItem u)) is (item_layer y)

module_item_itself : (x : ModuleItem) → SameModuleItem x x
module_item_itself = ind-ModuleItem (λ x. SameModuleItem x x) item_settled

module_items_themselves : (xs : List ModuleItem) → SameModuleItems xs xs
module_items_themselves [] = same_no_module_item
module_items_themselves (x ∷ xs) = same_more_module_items x x xs xs (module_item_itself x) (module_items_themselves xs)

-- ---- whole modules

module_itself : (m : Module) → SameModule m m
module_itself m = record {
  directives = refl;
  name = refl;
  parameters = header_itself m.parameters.items;
  ports = option_itself SamePorts ports_themselves m.ports;
  items = module_items_themselves m.items.items;
}

pub modules_themselves : (ms : List Module) → Pairwise SameModule ms ms
modules_themselves ms = all_themselves SameModule module_itself ms
