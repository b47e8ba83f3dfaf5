-- What the functions on connections and parameters answer.
use Rattle.std.specs.Prelude.{◌≡◌, ℕ, Bool, true, false, ◌||◌, is_some, List, [], ◌∷◌, ◌++◌, Option, Some, None, option_map, map}
use Rattle.std.specs.List.{list_any}
use Rattle.std.specs.Str.{bytes_eq}
use Rattle.std.specs.Borrow.{Bor}
use Rattle.std.specs.declared.vec.Vec.{Vec}
use Rattle.std.specs.declared.alloc.Global.{Global}
use Rattle.vs_syntax.specs.declared.tree.Expr.{Expr}
use Rattle.vs_syntax.specs.declared.tree.Connection.{Connection}
use Rattle.vs_syntax.specs.declared.tree.Connections.{Connections}
use Rattle.vs_widths.specs.Names.{meaning_of}
use Rattle.vs_scopes.specs.Connections.{names_given, has_twice, has_other, is_mismatch, ends_of, by_name}
use Rattle.vs_scopes.specs.Overrides.{Parameter, Given, do_not_fit, overriding, given_from}
use Rattle.vs_scopes.specs.declared.parameters.Parameter.{Parameter as FoundParameter}
use Rattle.vs_scopes.specs.declared.parameters.Given.{Given as FoundGiven}

-- ---- references

-- what an optional reference refers to
abbrev pub read_end : {A : Type 0} → Option (Bor A) → Option A
read_end o = option_map (λ x. x.now) o

abbrev pub read_ends : {A : Type 0} → List (Option (Bor A)) → List (Option A)
read_ends os = map read_end os

-- borrowed names, by their bytes
abbrev pub borrowed : List (Bor (List ℕ)) → List (List ℕ)
borrowed names = map (λ n. n.now) names

-- ---- connections

-- what connections say of each of these names, where they fit them
abbrev pub AreEnds : Connections → List (List ℕ) → Option (Vec (Option (Bor Expr)) Global) → Type 0
AreEnds c ns None = is_mismatch c ns ≡ true
AreEnds c ns (Some v) = (is_mismatch c ns ≡ false) × (read_ends v.items ≡ ends_of c ns)

-- a value under a name; none where there is no such name
abbrev pub value_under : Option (Option (Bor Expr)) → Option Expr
value_under None = None
value_under (Some o) = read_end o

-- the names and values of connections by name, which are given once and to names among these
pub record Gathers (ns : List (List ℕ)) (cs : List Connection) (given : List (List ℕ × Option (Bor Expr))) : Type 0 where
  pub once : has_twice (names_given cs) ≡ false
  pub known : has_other (names_given cs) ns ≡ false
  pub named : (n : List ℕ) → is_some (meaning_of given n) ≡ list_any (bytes_eq n) (names_given cs)
  pub values : (n : List ℕ) → value_under (meaning_of given n) ≡ by_name cs n

-- names among these, each with some value
abbrev pub IsSet : List (List ℕ) → List (List ℕ × Bool) → Type 0
IsSet ns set = (n : List ℕ) → is_some (meaning_of set n) ≡ list_any (bytes_eq n) ns

-- whether connections by name don't fit these names
abbrev pub is_named_mismatch : List Connection → List (List ℕ) → Bool
is_named_mismatch cs ns = has_twice (names_given cs) || has_other (names_given cs) ns

-- what connections by name say of each of these names, where they fit them
abbrev pub AreNamedEnds : List Connection → List (List ℕ) → Option (Vec (Option (Bor Expr)) Global) → Type 0
AreNamedEnds cs ns None = is_named_mismatch cs ns ≡ true
AreNamedEnds cs ns (Some v) = (is_named_mismatch cs ns ≡ false) × (read_ends v.items ≡ map (by_name cs) ns)

-- a connection more, where it fits
abbrev pub GathersMore : List (List ℕ) → List Connection → Connection → Bool → List (List ℕ × Option (Bor Expr)) → Type 0
GathersMore ns cs c true given = Gathers ns (cs ++ c ∷ []) given
GathersMore ns cs c false given = is_named_mismatch (cs ++ c ∷ []) ns ≡ true

-- each of these connections, where they fit
abbrev pub GathersEach : List (List ℕ) → List Connection → Bool → List (List ℕ × Option (Bor Expr)) → Type 0
GathersEach ns cs true given = Gathers ns cs given
GathersEach ns cs false given = is_named_mismatch cs ns ≡ true

-- connections by name, where they fit
abbrev pub GathersAll : List (List ℕ) → List Connection → Option (List (List ℕ × Option (Bor Expr))) → Type 0
GathersAll ns cs None = is_named_mismatch cs ns ≡ true
GathersAll ns cs (Some given) = Gathers ns cs given

-- ---- parameters

-- a parameter, by what it refers to
abbrev pub read_parameter : FoundParameter → Parameter
read_parameter x = record { fixed = x.fixed; form = read_end x.form; name = x.name.now; value = x.value.now }

-- a parameter with what overrides it, by what they refer to
abbrev pub read_given : FoundGiven → Given
read_given g = (read_parameter g.parameter, read_end g.over)

-- what overrides parameters, where it fits them
abbrev pub AreOverrides : Option Connections → List Parameter → Option (Vec (Option (Bor Expr)) Global) → Type 0
AreOverrides c ps None = do_not_fit c ps ≡ true
AreOverrides c ps (Some v) = (do_not_fit c ps ≡ false) × (read_ends v.items ≡ overriding c ps)

-- parameters with what overrides them, where that fits them
abbrev pub AreGiven : Option Connections → List Parameter → Option (Vec FoundGiven Global) → Type 0
AreGiven c ps None = do_not_fit c ps ≡ true
AreGiven c ps (Some v) = (do_not_fit c ps ≡ false) × (map read_given v.items ≡ given_from ps (overriding c ps))
