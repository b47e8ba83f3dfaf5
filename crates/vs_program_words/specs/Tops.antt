-- The modules of a source that no module of it instantiates.
use Rattle.std.specs.Prelude.{ℕ, List, [], ◌∷◌, ◌++◌, Option, None, Some, if◌then◌else◌}
use Rattle.std.specs.List.{flat_map, list_any}
use Rattle.std.specs.Str.{bytes_eq}
use Rattle.std.specs.declared.boxed.Box.{Box}
use Rattle.std.specs.declared.alloc.Global.{Global}
use Rattle.vs_syntax.specs.declared.tree.Item.{Item}
use Rattle.vs_syntax.specs.declared.tree.Item.TheVariants as i
use Rattle.vs_syntax.specs.declared.tree.ModuleItem.{ModuleItem, ModuleItem-F, fold-ModuleItem}
use Rattle.vs_syntax.specs.declared.tree.ModuleItem.TheOpen as y
use Rattle.vs_syntax.specs.declared.tree.Module.{Module}
use Rattle.vs_syntax.specs.declared.tree.Source.{Source}

-- the name of the module that an item instantiates (clause 12.1.2)
abbrev pub item_uses : Item → List (List ℕ)
item_uses (i.Instances n o xs) = n.items ∷ []
item_uses _ = []

abbrev pub step_after : Option (Box (List (List ℕ)) Global) → List (List ℕ)
step_after None = []
step_after (Some ns) = ns.value

-- one layer of a module item: the names of the modules that it instantiates, with those of each inner one in its place (clause 12.4)
abbrev pub uses_step : ModuleItem-F (List (List ℕ)) → List (List ℕ)
uses_step (y.Plain x) = item_uses x
uses_step (y.Region xs) = flat_map (λ ns. ns) xs.items
uses_step (y.For h x) = x.value
uses_step (y.If e x o) = x.value ++ step_after o
uses_step y.Null = []
uses_step (y.Block n xs) = flat_map (λ ns. ns) xs.items

-- the names of the modules that a module item instantiates, whatever of it is generated
abbrev pub used_in : ModuleItem → List (List ℕ)
used_in = fold-ModuleItem (List (List ℕ)) uses_step

-- those of what stands behind `else`
abbrev pub else_uses : Option (Box ModuleItem Global) → List (List ℕ)
else_uses None = []
else_uses (Some x) = used_in x.value

abbrev pub used_among : List ModuleItem → List (List ℕ)
used_among xs = flat_map used_in xs

-- those that modules instantiate
abbrev pub used_by : List Module → List (List ℕ)
used_by ms = flat_map (λ (m : Module). used_among m.items.items) ms

-- the name of a module, unless it is one of these
abbrev pub own_top : List (List ℕ) → Module → List (List ℕ)
own_top names m = if list_any (bytes_eq m.name.items) names then [] else m.name.items ∷ []

-- the names of modules that are none of these, each once, in their order
abbrev pub tops_among : List (List ℕ) → List Module → List (List ℕ)
tops_among names [] = []
tops_among names (m ∷ ms) = own_top names m ++ tops_among (names ++ own_top names m) ms

-- the names of the modules that no module of a source instantiates, each once, in the order of the text (clause 12.1.1)
abbrev pub top_modules : Source → List (List ℕ)
top_modules s = tops_among (used_by s.modules.items) s.modules.items
