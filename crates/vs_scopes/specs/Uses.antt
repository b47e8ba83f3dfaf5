-- The names that are used where an undeclared one is an implicit net.
use Rattle.std.specs.Prelude.{ℕ, ◌≡◌, Bool, true, List, [], ◌∷◌, ◌++◌, Option, None, Some}
use Rattle.std.specs.List.{flat_map, list_all}
use Rattle.vs_syntax.specs.vs_logic4.specs.declared.operators.Binary.{Binary}
use Rattle.vs_syntax.specs.declared.tree.Connection.{Connection}
use Rattle.vs_syntax.specs.declared.tree.Connections.{Connections}
use Rattle.vs_syntax.specs.declared.tree.Connections.TheVariants.{Ordered, Named}
use Rattle.vs_syntax.specs.declared.tree.Expr.{Expr}
use Rattle.vs_syntax.specs.declared.tree.Expr.TheOpen.{Expr-F}
use Rattle.vs_syntax.specs.declared.tree.Expr.TheOpen as e
use Rattle.vs_syntax.specs.declared.tree.Expr.TheFolds.{fold-Expr}
use Rattle.vs_syntax.specs.declared.tree.Instance.{Instance}
use Rattle.vs_syntax.specs.declared.tree.Item.{Item}
use Rattle.vs_syntax.specs.declared.tree.Item.TheVariants as i
use Rattle.vs_syntax.specs.declared.tree.Left.{Left}
use Rattle.vs_syntax.specs.declared.tree.Left.TheOpen.{Left-F}
use Rattle.vs_syntax.specs.declared.tree.Left.TheOpen as f
use Rattle.vs_syntax.specs.declared.tree.Left.TheFolds.{fold-Left}
use Rattle.vs_syntax.specs.declared.tree.Module.{Module}
use Rattle.vs_syntax.specs.declared.tree.ModuleItem.{ModuleItem}
use Rattle.vs_syntax.specs.declared.tree.ModuleItem.TheOpen.{ModuleItem-F}
use Rattle.vs_syntax.specs.declared.tree.ModuleItem.TheOpen as y
use Rattle.vs_syntax.specs.declared.tree.ModuleItem.TheFolds.{fold-ModuleItem}
use Rattle.vs_syntax.specs.declared.tree.NetAssignment.{NetAssignment}
use Rattle.vs_syntax.specs.declared.tree.PartSelect.{PartSelect}
use Rattle.vs_syntax.specs.declared.tree.Source.{Source}
use Rattle.vs_syntax.specs.Derives.{Derives}
use Rattle.vs_syntax.specs.SourceNames.{else_names}
use Rattle.vs_syntax.specs.Symbols.{Symbol, a_name}
use Rattle.vs_scopes.specs.Pieces.{Piece, plain}

-- names, by their bytes
abbrev pub Bytes : Type 0
Bytes = List (List ℕ)

-- ---- names in expressions

-- the names in the second expression of a part-select, where there is one
abbrev pub second_names : Option (PartSelect × Bytes) → Bytes
second_names None = []
second_names (Some x) = x.1

-- the names in the expressions of a select
abbrev pub select_names : Bytes × Option (PartSelect × Bytes) → Bytes
select_names x = x.0 ++ second_names x.1

-- one layer of an expression: the names in it, with those in each inner one in its place
abbrev pub expr_names_step : Expr-F Bytes → Bytes
expr_names_step (e.Number l) = []
expr_names_step (e.Name n) = n.items ∷ []
expr_names_step (e.Select n ss) = n.items ∷ flat_map select_names ss.items
expr_names_step (e.Group x) = x.value
expr_names_step (e.Unary o x) = x.value
expr_names_step (e.Chain x ls) = x.value ++ flat_map (λ (l : Binary × Bytes). l.1) ls.items
expr_names_step (e.Choice ps x) = flat_map (λ (p : Bytes × Bytes). p.0 ++ p.1) ps.items ++ x.value
expr_names_step (e.Concat x xs) = x.value ++ flat_map (λ ns. ns) xs.items
expr_names_step (e.Repeat n x xs) = n.value ++ (x.value ++ flat_map (λ ns. ns) xs.items)
expr_names_step (e.Cast s x) = x.value

-- the names in an expression, in the order of the text
abbrev pub expr_names : Expr → Bytes
expr_names = fold-Expr Bytes expr_names_step

-- the names in the expressions of a select of a left side
abbrev pub second_expr_names : Option (PartSelect × Expr) → Bytes
second_expr_names None = []
second_expr_names (Some x) = expr_names x.1

abbrev pub select_expr_names : Expr × Option (PartSelect × Expr) → Bytes
select_expr_names x = expr_names x.0 ++ second_expr_names x.1

-- one layer of a left side: the names in it, with those in each inner one in its place
abbrev pub left_names_step : Left-F Bytes → Bytes
left_names_step (f.Name n ss) = n.items ∷ flat_map select_expr_names ss.items
left_names_step (f.Concat x xs) = x.value ++ flat_map (λ ns. ns) xs.items

-- the names in the left side of an assignment, those in indices too, in the order of the text
abbrev pub left_names : Left → Bytes
left_names = fold-Left Bytes left_names_step

-- ---- names used in a scope

-- the names in an expression, where there is one
abbrev pub end_names : Option Expr → Bytes
end_names None = []
end_names (Some x) = expr_names x

abbrev pub connection_names : Connection → Bytes
connection_names c = end_names c.value

-- the names in connections, in the order of the text (clause 12.3)
abbrev pub connections_names : Connections → Bytes
connections_names (Ordered x xs) = end_names x ++ flat_map end_names xs.items
connections_names (Named c cs) = connection_names c ++ flat_map connection_names cs.items

abbrev pub instance_names : Instance → Bytes
instance_names x = connections_names x.ports

abbrev pub assignment_names : NetAssignment → Bytes
assignment_names a = left_names a.target

-- the names that an item uses where an undeclared one is an implicit net: those in the connections of its instances, and those on the left of its
-- continuous assignments (clause 4.5)
abbrev pub names_used_by : Item → Bytes
names_used_by (i.Instances n o xs) = flat_map instance_names xs.items
names_used_by (i.Assign xs) = flat_map assignment_names xs.items
names_used_by _ = []

-- the names that a piece uses so
abbrev pub names_used : Piece → Bytes
names_used (plain x) = names_used_by x
names_used _ = []

-- ---- names used in modules

-- one layer of a module item: the names that it uses so, with those of each inner one in its place (clause 12.4)
abbrev pub used_step : ModuleItem-F Bytes → Bytes
used_step (y.Plain x) = names_used_by x
used_step (y.Region xs) = flat_map (λ ns. ns) xs.items
used_step (y.For h x) = x.value
used_step (y.If c x o) = x.value ++ else_names o
used_step y.Null = []
used_step (y.Block n xs) = flat_map (λ ns. ns) xs.items

-- the names that a module item uses so, in all that it may generate
abbrev pub names_used_in : ModuleItem → Bytes
names_used_in = fold-ModuleItem Bytes used_step

-- the names that modules use so
abbrev pub names_used_among : List Module → Bytes
names_used_among ms = flat_map (λ (m : Module). flat_map names_used_in m.items.items) ms

-- what holds of each token of a text holds of each name that its source uses so, as a token
abbrev pub UsedAreTokens : Type 0
UsedAreTokens = (p : Symbol → Bool) (ts : List Symbol) (s : Source) → Derives ts s → list_all p ts ≡ true →
    list_all (λ n. p (a_name n)) (names_used_among s.modules.items) ≡ true
