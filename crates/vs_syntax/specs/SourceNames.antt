-- The names that a source declares.
use Rattle.std.specs.Prelude.{ℕ, ◌≡◌, Bool, true, List, [], ◌∷◌, ◌++◌, Option, None, Some, map}
use Rattle.std.specs.List.{flat_map, list_all}
use Rattle.std.specs.declared.boxed.Box.{Box}
use Rattle.std.specs.declared.vec.Vec.{Vec}
use Rattle.std.specs.declared.alloc.Global.{Global}
use Rattle.vs_syntax.specs.declared.tree.Declarator.{Declarator}
use Rattle.vs_syntax.specs.declared.tree.HeaderParameter.{HeaderParameter}
use Rattle.vs_syntax.specs.declared.tree.Constant.{Constant}
use Rattle.vs_syntax.specs.declared.tree.Port.{Port}
use Rattle.vs_syntax.specs.declared.tree.Instance.{Instance}
use Rattle.vs_syntax.specs.declared.tree.CaseLabel.{CaseLabel}
use Rattle.vs_syntax.specs.declared.tree.Local.{Local}
use Rattle.vs_syntax.specs.declared.tree.LocalDeclaration.{LocalDeclaration}
use Rattle.vs_syntax.specs.declared.tree.LocalDeclaration.TheVariants as d
use Rattle.vs_syntax.specs.declared.tree.Stmt.{Stmt, Stmt-F, fold-Stmt}
use Rattle.vs_syntax.specs.declared.tree.Stmt.TheOpen as f
use Rattle.vs_syntax.specs.declared.tree.ModuleItem.{ModuleItem, ModuleItem-F, fold-ModuleItem}
use Rattle.vs_syntax.specs.declared.tree.ModuleItem.TheOpen as y
use Rattle.vs_syntax.specs.declared.tree.Item.{Item}
use Rattle.vs_syntax.specs.declared.tree.Item.TheVariants as i
use Rattle.vs_syntax.specs.declared.tree.Module.{Module}
use Rattle.vs_syntax.specs.declared.tree.Source.{Source}
use Rattle.vs_syntax.specs.Symbols.{Symbol, a_name}
use Rattle.vs_syntax.specs.Derives.{Derives}

abbrev pub declarator_names : List Declarator → List (List ℕ)
declarator_names ds = map (λ (d : Declarator). d.name.items) ds

abbrev pub constant_names : List Constant → List (List ℕ)
constant_names xs = map (λ (x : Constant). x.name.items) xs

abbrev pub instance_names : List Instance → List (List ℕ)
instance_names xs = map (λ (x : Instance). x.name.items) xs

abbrev pub header_parameter_names : List HeaderParameter → List (List ℕ)
header_parameter_names xs = map (λ (x : HeaderParameter). x.name.items) xs

-- the names of ports, where there is a list of them
abbrev pub port_names : Option (Vec Port Global) → List (List ℕ)
port_names None = []
port_names (Some xs) = map (λ (x : Port). x.name.items) xs.items

-- names by their bytes
abbrev pub bare_names : List (Vec ℕ Global) → List (List ℕ)
bare_names ns = map (λ (n : Vec ℕ Global). n.items) ns

-- the names that a declaration of a named block declares (clause A.2.8)
abbrev pub local_names : LocalDeclaration → List (List ℕ)
local_names (d.Reg f xs) = map (λ (x : Local). x.name.items) xs.items
local_names (d.Integer xs) = map (λ (x : Local). x.name.items) xs.items

abbrev pub else_names : Option (Box (List (List ℕ)) Global) → List (List ℕ)
else_names None = []
else_names (Some ns) = ns.value

-- one layer of a statement: the names of named blocks, and those that they declare, with those of each inner statement in its place (clause 9.8.3)
abbrev pub stmt_names_step : Stmt-F (List (List ℕ)) → List (List ℕ)
stmt_names_step (f.Block xs) = flat_map (λ ns. ns) xs.items
stmt_names_step (f.Named n ls xs) = n.items ∷ (flat_map local_names ls.items ++ flat_map (λ ns. ns) xs.items)
stmt_names_step (f.If e x o) = x.value ++ else_names o
stmt_names_step (f.Case k e xs) = flat_map (λ (x : CaseLabel × List (List ℕ)). x.1) xs.items
stmt_names_step (f.For k x) = x.value
stmt_names_step (f.While e x) = x.value
stmt_names_step (f.Repeat e x) = x.value
stmt_names_step (f.Forever x) = x.value
stmt_names_step (f.Delay v x) = x.value
stmt_names_step (f.Event v x) = x.value
stmt_names_step _ = []

-- the names that a statement declares
abbrev pub stmt_names : Stmt → List (List ℕ)
stmt_names = fold-Stmt (List (List ℕ)) stmt_names_step

-- the names that an item declares (clauses A.2 and A.4.1)
abbrev pub item_names : Item → List (List ℕ)
item_names (i.Port f ns) = bare_names ns.items
item_names (i.Genvar ns) = bare_names ns.items
item_names (i.Wire f ds) = declarator_names ds.items
item_names (i.Reg f ds) = declarator_names ds.items
item_names (i.Integer ds) = declarator_names ds.items
item_names (i.Parameter f xs) = constant_names xs.items
item_names (i.Localparam f xs) = constant_names xs.items
item_names (i.Instances n o xs) = instance_names xs.items
item_names (i.Assign xs) = []
item_names (i.Initial x) = stmt_names x
item_names (i.Always x) = stmt_names x

-- the name of a generate block, where it has one
abbrev pub block_names : Option (Vec ℕ Global) → List (List ℕ)
block_names None = []
block_names (Some n) = n.items ∷ []

-- one layer of a module item: the names that it declares, with those of each inner one in its place (clause 12.4)
abbrev pub module_item_names_step : ModuleItem-F (List (List ℕ)) → List (List ℕ)
module_item_names_step (y.Plain x) = item_names x
module_item_names_step (y.Region xs) = flat_map (λ ns. ns) xs.items
module_item_names_step (y.For h x) = x.value
module_item_names_step (y.If e x o) = x.value ++ else_names o
module_item_names_step y.Null = []
module_item_names_step (y.Block n xs) = block_names n ++ flat_map (λ ns. ns) xs.items

-- the names that a module item declares
abbrev pub module_item_names : ModuleItem → List (List ℕ)
module_item_names = fold-ModuleItem (List (List ℕ)) module_item_names_step

-- a module's own name, and those that its header and its items declare (clause 12.1)
abbrev pub module_names : Module → List (List ℕ)
module_names m = m.name.items
    ∷ (header_parameter_names m.parameters.items ++ (port_names m.ports ++ flat_map module_item_names m.items.items))

-- the names that modules declare, their own among them
abbrev pub declared_names : List Module → List (List ℕ)
declared_names ms = flat_map module_names ms

-- what holds of each token of a text holds of each name that the source declares, as a token
abbrev pub NamesAreTokens : Type 0
NamesAreTokens = (p : Symbol → Bool) (ts : List Symbol) (s : Source) → Derives ts s → list_all p ts ≡ true →
    list_all (λ n. p (a_name n)) (declared_names s.modules.items) ≡ true
