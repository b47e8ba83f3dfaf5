-- What the functions on parts of statements, generate constructs and expressions answer.
use Rattle.std.specs.Prelude.{ℕ, List, [], ◌∷◌, ◌++◌, Option, None, Some}
use Rattle.std.specs.List.{flat_map}
use Rattle.std.specs.declared.boxed.Box.{Box}
use Rattle.std.specs.declared.vec.Vec.{Vec}
use Rattle.std.specs.declared.alloc.Global.{Global}
use Rattle.vs_syntax.specs.declared.tree.CaseLabel.{CaseLabel}
use Rattle.vs_syntax.specs.vs_logic4.specs.declared.operators.Binary.{Binary}
use Rattle.vs_syntax.specs.declared.tree.Expr.{Expr}
use Rattle.vs_syntax.specs.declared.tree.Left.{Left}
use Rattle.vs_syntax.specs.declared.tree.PartSelect.{PartSelect}
use Rattle.vs_syntax.specs.declared.tree.Stmt.{Stmt}
use Rattle.vs_scopes.specs.Pieces.{NamedBlock, blocks_in}
use Rattle.vs_scopes.specs.Uses.{Bytes, expr_names, select_expr_names, left_names}

-- the outermost named blocks of the statement behind `else`, where there is one
abbrev pub blocks_of_else : Option (Box Stmt Global) → List NamedBlock
blocks_of_else None = []
blocks_of_else (Some s) = blocks_in s.value

-- the outermost named blocks of the items of a `case`
abbrev pub blocks_in_items : List (CaseLabel × Stmt) → List NamedBlock
blocks_in_items xs = flat_map (λ (x : CaseLabel × Stmt). blocks_in x.1) xs

-- a name, where there is one
abbrev pub own_name : Option (Vec ℕ Global) → List (List ℕ)
own_name None = []
own_name (Some n) = n.items ∷ []

-- ---- names in parts of expressions and of left sides

abbrev pub exprs_names : List Expr → Bytes
exprs_names xs = flat_map expr_names xs

abbrev pub links_names : List (Binary × Expr) → Bytes
links_names ls = flat_map (λ (l : Binary × Expr). expr_names l.1) ls

abbrev pub pairs_names : List (Expr × Expr) → Bytes
pairs_names ps = flat_map (λ (p : Expr × Expr). expr_names p.0 ++ expr_names p.1) ps

abbrev pub selects_names : List (Expr × Option (PartSelect × Expr)) → Bytes
selects_names ss = flat_map select_expr_names ss

abbrev pub lefts_names : List Left → Bytes
lefts_names xs = flat_map left_names xs
