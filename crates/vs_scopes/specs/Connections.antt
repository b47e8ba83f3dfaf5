-- What connections in order or by name say of each of the names that they are for: ports, or parameters.
use Rattle.std.specs.Prelude.{ℕ, Bool, false, ◌||◌, not, nat_lt, List, [], ◌∷◌, Option, None, length, map, if◌then◌else◌}
use Rattle.std.specs.List.{list_any}
use Rattle.std.specs.Str.{bytes_eq}
use Rattle.vs_syntax.specs.declared.tree.Expr.{Expr}
use Rattle.vs_syntax.specs.declared.tree.Connection.{Connection}
use Rattle.vs_syntax.specs.declared.tree.Connections.{Connections}
use Rattle.vs_syntax.specs.declared.tree.Connections.TheVariants.{Ordered, Named}

-- connections in order: empty parentheses hold none (clauses 12.2.2.1 and 12.3.5)
abbrev pub in_text : Option Expr → List (Option Expr) → List (Option Expr)
in_text None [] = []
in_text first rest = first ∷ rest

-- connections in order, for each of these names; the last names may have none (clause 12.3.5; profile)
abbrev pub in_order : List (Option Expr) → List (List ℕ) → List (Option Expr)
in_order xs [] = []
in_order [] (n ∷ ns) = None ∷ in_order [] ns
in_order (x ∷ xs) (n ∷ ns) = x ∷ in_order xs ns

-- the connection by this name (clauses 12.2.2.2 and 12.3.6)
abbrev pub by_name : List Connection → List ℕ → Option Expr
by_name [] n = None
by_name (c ∷ cs) n = if bytes_eq n c.name.items then c.value else by_name cs n

-- what connections say of each of these names, in the order of the names (clauses 12.2.2 and 12.3)
abbrev pub ends_of : Connections → List (List ℕ) → List (Option Expr)
ends_of (Ordered x xs) ns = in_order (in_text x xs.items) ns
ends_of (Named c cs) ns = map (by_name (c ∷ cs.items)) ns

-- the names of connections by name
abbrev pub names_given : List Connection → List (List ℕ)
names_given cs = map (λ (c : Connection). c.name.items) cs

-- whether a name stands twice
abbrev pub has_twice : List (List ℕ) → Bool
has_twice [] = false
has_twice (n ∷ ns) = list_any (bytes_eq n) ns || has_twice ns

-- whether one of these names is none of those
abbrev pub has_other : List (List ℕ) → List (List ℕ) → Bool
has_other given ns = list_any (λ n. not (list_any (bytes_eq n) ns)) given

-- whether connections don't fit these names: there are more in order than names, or one by name is given twice or to no such name (clauses 12.2.2
-- and 12.3)
abbrev pub is_mismatch : Connections → List (List ℕ) → Bool
is_mismatch (Ordered x xs) ns = nat_lt (length ns) (length (in_text x xs.items))
is_mismatch (Named c cs) ns = has_twice (names_given (c ∷ cs.items)) || has_other (names_given (c ∷ cs.items)) ns
