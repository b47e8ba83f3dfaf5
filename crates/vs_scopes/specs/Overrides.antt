-- The parameters of a module, and what overrides them.
use Rattle.std.specs.Prelude.{ℕ, Bool, true, false, List, [], ◌∷◌, ◌++◌, Option, None, Some, map, if◌then◌else◌}
use Rattle.std.specs.List.{flat_map}
use Rattle.vs_syntax.specs.declared.tree.Expr.{Expr}
use Rattle.vs_syntax.specs.declared.tree.Constant.{Constant}
use Rattle.vs_syntax.specs.declared.tree.Connections.{Connections}
use Rattle.vs_syntax.specs.declared.tree.HeaderParameter.{HeaderParameter}
use Rattle.vs_syntax.specs.declared.tree.ParameterForm.{ParameterForm}
use Rattle.vs_syntax.specs.declared.tree.Module.{Module}
use Rattle.vs_syntax.specs.declared.tree.Item.{Item}
use Rattle.vs_syntax.specs.declared.tree.Item.TheVariants as i
use Rattle.vs_scopes.specs.Pieces.{Piece, plain, pieces_of}
use Rattle.vs_scopes.specs.Connections.{ends_of, is_mismatch}

-- ---- declarations

-- a parameter as the text declares it: whether nothing may override it, what is said of it, its name and its value (clauses 4.10 and 12.2)
pub record Parameter : Type 0 where
  pub fixed : Bool
  pub form : Option ParameterForm
  pub name : List ℕ
  pub value : Expr

-- what is said of a name, and of those before it where nothing is said (clause 12.2)
abbrev pub said : {A : Type 0} → Option A → Option A → Option A
said before None = before
said before (Some form) = Some form

-- the parameters of a header (clause 12.2)
abbrev pub header_parameters : Option ParameterForm → List HeaderParameter → List Parameter
header_parameters before [] = []
header_parameters before (p ∷ ps) =
    record { fixed = false; form = said before p.form; name = p.name.items; value = p.value } ∷ header_parameters (said before p.form) ps

abbrev pub item_parameter : Bool → ParameterForm → Constant → Parameter
item_parameter fixed form c = record { fixed = fixed; form = Some form; name = c.name.items; value = c.value }

-- the parameters that an item declares; nothing overrides those of a `localparam` (clause 4.10)
abbrev pub parameters_in : Item → List Parameter
parameters_in (i.Parameter f xs) = map (item_parameter false f) xs.items
parameters_in (i.Localparam f xs) = map (item_parameter true f) xs.items
parameters_in _ = []

-- the parameters that a piece declares (clause 4.10)
abbrev pub piece_parameters : Piece → List Parameter
piece_parameters (plain x) = parameters_in x
piece_parameters _ = []

-- the parameters that pieces declare, in the order of the text
abbrev pub parameters_among : List Piece → List Parameter
parameters_among ps = flat_map piece_parameters ps

-- the parameters of a module in the order of the text, those of its header first
abbrev pub parameters_of : Module → List Parameter
parameters_of m = header_parameters None m.parameters.items ++ parameters_among (pieces_of m.items.items)

-- the names of parameters that may be overridden, in the order of the text
abbrev pub overridable : List Parameter → List (List ℕ)
overridable [] = []
overridable (p ∷ ps) = if p.fixed then overridable ps else p.name ∷ overridable ps

-- ---- overrides

-- a parameter, with the expression that overrides it, where there is one
abbrev pub Given : Type 0
Given = Parameter × Option Expr

abbrev pub first_end : List (Option Expr) → Option Expr
first_end [] = None
first_end (x ∷ xs) = x

abbrev pub other_ends : List (Option Expr) → List (Option Expr)
other_ends [] = []
other_ends (x ∷ xs) = xs

-- parameters with what overrides them, one for each that may be overridden
abbrev pub given_from : List Parameter → List (Option Expr) → List Given
given_from [] xs = []
given_from (p ∷ ps) xs = if p.fixed then (p, None) ∷ given_from ps xs else (p, first_end xs) ∷ given_from ps (other_ends xs)

-- the expressions that override parameters, in the order of those (clause 12.2.2)
abbrev pub overriding : Option Connections → List Parameter → List (Option Expr)
overriding None ps = []
overriding (Some c) ps = ends_of c (overridable ps)

-- the parameters of a module with what overrides them (clause 12.2.2)
abbrev pub given_to : Option Connections → Module → List Given
given_to c m = given_from (parameters_of m) (overriding c (parameters_of m))

-- whether overrides don't fit these parameters (clause 12.2.2)
abbrev pub do_not_fit : Option Connections → List Parameter → Bool
do_not_fit None ps = false
do_not_fit (Some c) ps = is_mismatch c (overridable ps)

-- the same of the parameters of a module
abbrev pub is_override_mismatch : Option Connections → Module → Bool
is_override_mismatch c m = do_not_fit c (parameters_of m)
