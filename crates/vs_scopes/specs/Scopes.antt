-- Scopes of a source.
use Rattle.std.specs.Prelude.{ℕ, zero, suc, ◌+◌, ◌*◌, Bool, true, false, ◌&&◌, ◌||◌, not, List, [], ◌∷◌, ◌++◌, Option, Some, None, is_some, is_none, length, map, sum, filter, find, if◌then◌else◌}
use Rattle.std.specs.List.{flat_map, list_any}
use Rattle.std.specs.Str.{bytes_eq}
use Rattle.vs_syntax.specs.declared.tree.Expr.{Expr}
use Rattle.vs_syntax.specs.declared.tree.Direction.{Direction}
use Rattle.vs_syntax.specs.declared.tree.Direction.TheVariants.{Input, Output}
use Rattle.vs_syntax.specs.declared.tree.Connections.{Connections}
use Rattle.vs_syntax.specs.declared.tree.Item.TheVariants as i
use Rattle.vs_syntax.specs.declared.tree.Module.{Module}
use Rattle.vs_design.specs.declared.design.ScopeKind.{ScopeKind}
use Rattle.vs_design.specs.declared.design.ScopeKind.TheVariants as opened_by
use Rattle.vs_widths.specs.declared.bindings.Binding.{Binding}
use Rattle.vs_widths.specs.declared.bindings.Binding.TheVariants as b
use Rattle.vs_widths.specs.declared.constants.Const.{Const}
use Rattle.vs_widths.specs.declared.faults.WidthReason.{WidthReason}
use Rattle.vs_widths.specs.Environment.{Environment}
use Rattle.vs_scopes.specs.vs_widths.specs.Names.{meaning_of}
use Rattle.vs_scopes.specs.vs_widths.specs.Lefts.{is_left}
use Rattle.vs_scopes.specs.Pieces.{block_pieces, Piece, plain, pieces_of}
use Rattle.vs_scopes.specs.Uses.{names_used}
use Rattle.vs_scopes.specs.Printed.{PathName, plainly, Path, same_path}
use Rattle.vs_scopes.specs.Connections.{ends_of, is_mismatch}
use Rattle.vs_scopes.specs.Parameters.{said, parameters_of, parameters_among, Given, given_from, given_to, is_override_mismatch, with_constant, known_in_module, constants_of, own_faults, outer_faults, any_fault}
use Rattle.vs_scopes.specs.Ports.{ModulePort, ports_of, port_names, ports_again}
use Rattle.vs_scopes.specs.Declarations.{Bindings, DeclaredName, declared_names, names_in, meaning_as, Use, uses_among, genvars_in, inner_names_among, bound_to, unsized_of, valueless_of, early_names}
use Rattle.vs_scopes.specs.Nets.{permits_nets, Sight, unseen, seen, coming, nothing_seen, coming_paths, pieces_with_nets, first_net, is_before, is_net}
use Rattle.vs_scopes.specs.Generate.{Inner, instance, generated, inner_from, turns_among}
use Rattle.vs_scopes.specs.Generate as g

-- what names mean to no scope
abbrev pub nowhere : Environment
nowhere n = None

-- what names mean that are bound so in a scope, and so around it: a name is looked up in its scope, and then outward (clause 12.7)
abbrev pub outward : Bindings → Environment → Environment
outward bs env n = said (env n) (meaning_of bs n)

-- the names that the text of a module declares, with what they are bound to before the values of its parameters are known
abbrev pub text_of : Module → Bindings
text_of m = early_names unsized_of (parameters_of m) (ports_of m) (pieces_of m.items.items)

-- what names of a module are bound to in its constant expressions before the values of its parameters are known
abbrev pub early : Module → Environment
early m = outward (early_names valueless_of (parameters_of m) (ports_of m) (pieces_of m.items.items)) nowhere

-- ---- scopes

-- A scope: an instance of a module, or the top; a generate block; or a named block (clauses 12.1, 12.4, 9.8.3 and 12.7).
pub record Scope : Type 0 where
  -- its names from the top, and its own
  pub path : Path
  pub title : PathName
  pub kind : ScopeKind
  -- how many scopes, signals, instances (the top among them) and turns of generate loops stand before it in design order
  pub number : ℕ
  pub base : ℕ
  pub instances : ℕ
  pub turns : ℕ
  -- in how many instances it stands, the top and itself among them
  pub depth : ℕ
  -- whether undeclared names may be nets in it, and the names that its text declares, with what they are bound to before its constants are known
  pub nets : Bool
  pub text : Bindings
  -- its ports, and what stands in it, its implicit nets among that
  pub ports : List ModulePort
  pub pieces : List Piece
  -- its constants, and what names are bound to in the constant expressions of its declarations
  pub constants : List (List ℕ × Const)
  pub known : Environment
  -- the names of the modules that it stands in, the innermost first
  pub within : List (List ℕ)
  -- the path of the instance that it stands in, which may be itself
  pub home : Path
  -- the path of the scope around it, what names are bound to there, how they stand there where it stands in the text, and what its ports are
  -- connected to there, in their order
  pub around : Path
  pub outer : Environment
  pub sight : List ℕ → Sight
  pub ends : List (Option Expr)

-- whether a scope is an instance
abbrev pub is_instance : ScopeKind → Bool
is_instance opened_by.Module = true
is_instance opened_by.Begin = false

-- what names are bound to outward of a scope: those of a module aren't seen in its instances (clause 12.7)
abbrev pub seen_from : ScopeKind → Environment → Environment
seen_from opened_by.Module env = nowhere
seen_from opened_by.Begin env = env

-- the names of the signals that a scope declares, its ports first, then in the order of the text
abbrev pub declarations_of : Scope → List DeclaredName
declarations_of s = declared_names s.known s.ports s.pieces

abbrev pub names_of : Scope → List (List ℕ)
names_of s = names_in (declarations_of s)

-- the instances in a scope, in the order of the text
abbrev pub uses_of : Scope → List Use
uses_of s = uses_among s.pieces

-- declared names, each bound to the signal that it declares: what it means, and the numbers from a base on
abbrev pub numbered_names : ℕ → List DeclaredName → Bindings
numbered_names base [] = []
numbered_names base (d ∷ ds) = (d.name, b.Signal (meaning_as d) base) ∷ numbered_names (suc base) ds

abbrev pub constant_names : List (List ℕ × Const) → Bindings
constant_names cs = map (λ (c : List ℕ × Const). (c.0, b.Constant c.1)) cs

-- the names of a scope with what they are bound to; its signals are numbered in design order
abbrev pub bindings_of : Scope → Bindings
bindings_of s =
    constant_names s.constants ++ numbered_names s.base (declarations_of s) ++ bound_to b.Genvar (flat_map genvars_in s.pieces) ++
    bound_to b.Other (inner_names_among s.pieces)

-- the names that are bound
abbrev pub keys : Bindings → List (List ℕ)
keys bs = map (λ (b : List ℕ × Binding). b.0) bs

-- the names that a scope declares, as often as it does (clause 12.7)
abbrev pub all_names_of : Scope → List (List ℕ)
all_names_of s = keys (bindings_of s) ++ ports_again s.ports s.pieces

-- what each name is bound to in a scope (clause 12.7)
abbrev pub environment : Scope → Environment
environment s = outward (bindings_of s) (seen_from s.kind s.outer)

-- the path of a name of a scope (clause 12.5)
abbrev pub named_at : Scope → PathName → Path
named_at s n = s.path ++ n ∷ []

abbrev pub named : Scope → List ℕ → Path
named s n = named_at s (plainly n)

-- the names that the text declares in a scope: implicit nets are none of them (clauses 4.5 and 12.7)
abbrev pub text_names : Scope → List (List ℕ)
text_names s = keys s.text

-- what the instances and blocks in a scope are, in the order of the text (clauses 12.1.2, 12.4 and 9.8.3)
abbrev pub inner_of : Scope → List Inner
inner_of s = inner_from 0 (environment s) (text_names s) 1 s.pieces

-- ---- implicit nets

-- how a name stands in a scope, where it isn't declared before: by whether the text declares it as a port or a net, and by what the text binds it to
abbrev pub sight_by : Scope → List ℕ → Bool → Option Binding → Sight
sight_by s n told None = s.sight n
sight_by s n told (Some x) = if told && is_net x then coming (named s n) else seen

-- how a name stands in a scope before the piece at a place: only a net has to be declared before it is used so (clauses 4.5 and 12.7; profile)
abbrev pub sight_in : Scope → ℕ → List ℕ → Sight
sight_in s place n =
    if is_before (first_net s.pieces n) place then seen else sight_by s n (is_some (first_net s.pieces n)) (meaning_of s.text n)

-- the nets that are declared behind their use in pieces of a scope, of which the first has this place, by their paths
abbrev pub late_from : Scope → ℕ → List Piece → List Path
late_from s place [] = []
late_from s place (p ∷ ps) = flat_map (λ n. coming_paths (sight_in s place n)) (names_used p) ++ late_from s (suc place) ps

-- the nets that are declared behind their use in a scope
abbrev pub late_nets : Scope → List Path
late_nets s = late_from s 0 s.pieces

-- whether a name is that of an implicit net of a scope
abbrev pub is_implicit : Scope → List ℕ → Bool
is_implicit s n = is_some (first_net s.pieces n) && is_none (meaning_of s.text n)

-- whether what opens a scope in a scope is a generate block that has the name of an implicit net there (clauses 4.5 and 12.4.3)
abbrev pub is_named_as_net : Scope → Inner → Bool
is_named_as_net s (generated i n cs xs) = is_implicit s n.name
is_named_as_net s _ = false

-- ---- the scopes of a source

-- the first module of a name
abbrev pub module_named : List Module → List ℕ → Option Module
module_named ms n = find (λ m. bytes_eq n m.name.items) ms

-- how many scopes, signals, instances and turns of generate loops stand before a scope
pub record Before : Type 0 where
  pub scopes : ℕ
  pub signals : ℕ
  pub instances : ℕ
  pub turns : ℕ

-- how many signals scopes declare
abbrev pub signal_count : List Scope → ℕ
signal_count ss = length (flat_map declarations_of ss)

abbrev pub instance_count : List Scope → ℕ
instance_count ss = length (filter (λ (s : Scope). is_instance s.kind) ss)

-- how many turns the generate loops of a scope have (clause 12.4.1)
abbrev pub turns_in : Scope → ℕ
turns_in s = turns_among (environment s) s.pieces

-- how many turns the generate loops of scopes have
abbrev pub turn_count : List Scope → ℕ
turn_count ss = sum (map turns_in ss)

-- what stands before a scope that follows these
abbrev pub before_following : Before → List Scope → Before
before_following at ss = record {
  scopes = at.scopes + length ss;
  signals = at.signals + signal_count ss;
  instances = at.instances + instance_count ss;
  turns = at.turns + turn_count ss;
}

-- what stands before a scope
abbrev pub before : Scope → Before
before s = record { scopes = s.number; signals = s.base; instances = s.instances; turns = s.turns }

-- what stands in a module, with its implicit nets, where it may have them
abbrev pub module_pieces : Bool → Module → List Piece
module_pieces nets m = pieces_with_nets nets (text_of m) nothing_seen (pieces_of m.items.items)

-- the scope of the top module, under the module's name; nothing overrides its parameters, and its ports have no connection (clause 12.1.1)
abbrev pub top_scope : Bool → Module → Scope
top_scope nets m = record {
  path = plainly m.name.items ∷ [];
  title = plainly m.name.items;
  kind = opened_by.Module;
  number = 0;
  base = 0;
  instances = 0;
  turns = 0;
  depth = 1;
  nets = nets;
  text = text_of m;
  ports = ports_of m;
  pieces = module_pieces nets m;
  constants = constants_of nowhere (early m) (given_to None m);
  known = known_in_module nowhere (early m) (given_to None m);
  within = m.name.items ∷ [];
  home = plainly m.name.items ∷ [];
  around = [];
  outer = nowhere;
  sight = nothing_seen;
  ends = [];
}

-- the scope that an instance in a scope is, of this module, with so much before it (clauses 12.1.2, 12.2.2 and 12.3)
abbrev pub instance_scope : Bool → Scope → Before → Use → Module → Scope
instance_scope nets s at u m = record {
  path = named s u.name;
  title = plainly u.name;
  kind = opened_by.Module;
  number = at.scopes;
  base = at.signals;
  instances = at.instances;
  turns = at.turns;
  depth = suc s.depth;
  nets = nets;
  text = text_of m;
  ports = ports_of m;
  pieces = module_pieces nets m;
  constants = constants_of (environment s) (early m) (given_to u.overrides m);
  known = known_in_module (environment s) (early m) (given_to u.overrides m);
  within = m.name.items ∷ s.within;
  home = named s u.name;
  around = s.path;
  outer = environment s;
  sight = nothing_seen;
  ends = ends_of u.ports (port_names (ports_of m));
}

-- the parameters of a block: nothing overrides them (clause 4.10.2)
abbrev pub block_given : List Piece → List Given
block_given ps = given_from (parameters_among ps) []

-- names bound to these constants, and the others as they were
abbrev pub with_constants : Environment → List (List ℕ × Const) → Environment
with_constants env [] = env
with_constants env (c ∷ cs) = with_constants (with_constant env c.0 c.1) cs

-- what names are bound to in the constant expressions of a block in a scope, of these constants and pieces, before the values of its parameters are
-- known
abbrev pub early_block : Scope → List (List ℕ × Const) → List Piece → Environment
early_block s cs ps = with_constants (outward (early_names valueless_of (parameters_among ps) [] ps) (environment s)) cs

-- the names that the text of a block of these constants and pieces declares, with what they are bound to before its constants are known
abbrev pub block_text : List (List ℕ × Const) → List Piece → Bindings
block_text cs ps = early_names unsized_of (parameters_among ps) [] ps ++ constant_names cs

-- the scope that a generate block or a named block in a scope is, of these constants and pieces, before the piece at a place there, with so much before
-- it (clauses 12.4 and 9.8.3)
abbrev pub block_scope : ℕ → Scope → Before → PathName → List (List ℕ × Const) → List Piece → Scope
block_scope place s at n cs ps = record {
  path = named_at s n;
  title = n;
  kind = opened_by.Begin;
  number = at.scopes;
  base = at.signals;
  instances = at.instances;
  turns = at.turns;
  depth = s.depth;
  nets = s.nets;
  text = block_text cs ps;
  ports = [];
  pieces = pieces_with_nets s.nets (block_text cs ps) (sight_in s place) ps;
  constants = cs ++ constants_of nowhere (early_block s cs ps) (block_given ps);
  known = known_in_module nowhere (early_block s cs ps) (block_given ps);
  within = s.within;
  home = s.home;
  around = s.path;
  outer = environment s;
  sight = sight_in s place;
  ends = [];
}

-- whether a module stands in itself where it is instantiated in a scope (clause 12.1.2)
abbrev pub is_inside : Scope → Module → Bool
is_inside s m = list_any (bytes_eq m.name.items) s.within

-- whether an instance's parameters have no values: one is overridden that there isn't, or a value has a fault (clause 12.2)
abbrev pub has_no_values : Environment → Option Connections → Module → Bool
has_no_values around c m =
    is_override_mismatch c m ||
    any_fault (λ w. own_faults w around (early m) (given_to c m) || outer_faults w around (given_to c m))

-- a fault of a value of a parameter of a block in a scope (clause 4.10.2)
abbrev pub block_fault : Scope → List (List ℕ × Const) → List Piece → WidthReason → Bool
block_fault s cs ps w = own_faults w nowhere (early_block s cs ps) (block_given ps)

-- the scope that an instance opens: none where there is no such module, the scope stands in it, or its parameters have no values
abbrev pub opened_instance : Bool → Scope → Before → Use → Option Module → Option Scope
opened_instance nets s at u None = None
opened_instance nets s at u (Some m) = if is_inside s m || has_no_values (environment s) u.overrides m then None else Some (instance_scope nets s at u m)

-- the scope that a block opens: none where its parameters have no values
abbrev pub opened_block : ℕ → Scope → Before → PathName → List (List ℕ × Const) → List Piece → Option Scope
opened_block place s at n cs ps = if any_fault (block_fault s cs ps) then None else Some (block_scope place s at n cs ps)

-- the scope that an instance or a block in a scope opens, with so much before it; a named block has no items, so that its place there doesn't matter
abbrev pub opened : List Module → Scope → Before → Inner → Option Scope
opened ms s at (instance u) = opened_instance (permits_nets ms u.of) s at u (module_named ms u.of)
opened ms s at (generated place n cs xs) = opened_block place s at n cs (pieces_of xs)
opened ms s at (g.named x) = opened_block 0 s at (plainly x.name) [] (block_pieces x)

-- what f lists of a scope that was opened
abbrev pub of_opened : {A : Type 0} → (Scope → List A) → Option Scope → List A
of_opened f None = []
of_opened f (Some s) = f s

-- The scopes of instances and blocks in a scope, and what f lists below each of them, in design order: with so much before them.
abbrev pub below : List Module → (Scope → List Scope) → Scope → Before → List Inner → List Scope
below ms f s at [] = []
below ms f s at (x ∷ xs) =
    let inner = of_opened f (opened ms s at x) in
    inner ++ below ms f s (before_following at inner) xs

-- what stands before the first scope in a scope
abbrev pub within_first : Scope → Before
within_first s = before_following (before s) (s ∷ [])

-- a scope and those inside it down to so many levels, in design order: its own members first, then its instances and blocks in the order of the text,
-- each whole
unfoldable pub scopes_within : ℕ → List Module → Scope → List Scope
scopes_within zero ms s = s ∷ []
scopes_within (suc n) ms s = s ∷ below ms (scopes_within n ms) s (within_first s) (inner_of s)

-- a design has at most so many levels of instances, the top among them (profile)
abbrev pub levels : ℕ
levels = 64

-- scopes stand at most so deep in one another: in each instance there are at most 256 blocks, as a source is nested no deeper (profile)
abbrev pub deepest : ℕ
deepest = 64 * 257

-- the top scope, where its parameters have values
abbrev pub opened_top : Bool → Option Module → Option Scope
opened_top nets None = None
opened_top nets (Some m) = if has_no_values nowhere None m then None else Some (top_scope nets m)

-- The scopes of a source with a top in design order, down to one level more than a design may have (clause 12).
abbrev pub scopes_of : List Module → List ℕ → List Scope
scopes_of ms top = of_opened (scopes_within deepest ms) (opened_top (permits_nets ms top) (module_named ms top))

-- what names are bound to in the scope of a path, among scopes (clause 12.7)
abbrev pub environment_at : List Scope → Path → Environment
environment_at [] p = nowhere
environment_at (s ∷ ss) p = if same_path s.path p then environment s else environment_at ss p

-- the paths of the signals of scopes, in design order
abbrev pub signal_paths : List Scope → List Path
signal_paths ss = flat_map (λ s. map (named s) (names_of s)) ss

-- ---- faults of an instance

-- whether a connection is none that a port of this direction may have: an output has one that is the left side of an assignment (clause 12.3.3)
abbrev pub is_wrong_at : Direction → Option Expr → Bool
is_wrong_at Input e = false
is_wrong_at Output None = false
is_wrong_at Output (Some e) = not (is_left e)

abbrev pub is_wrong_end : ModulePort → Option Expr → Bool
is_wrong_end p e = is_wrong_at p.direction e

abbrev pub has_wrong_end : List ModulePort → List (Option Expr) → Bool
has_wrong_end [] es = false
has_wrong_end (p ∷ ps) [] = false
has_wrong_end (p ∷ ps) (e ∷ es) = is_wrong_end p e || has_wrong_end ps es

-- whether the connections of an instance don't fit the ports of its module (clause 12.3)
abbrev pub is_port_mismatch : Use → Module → Bool
is_port_mismatch u m =
    is_mismatch u.ports (port_names (ports_of m)) || has_wrong_end (ports_of m) (ends_of u.ports (port_names (ports_of m)))

-- ---- faults of a block

-- whether a piece declares a parameter that might be overridden
abbrev pub is_parameter : Piece → Bool
is_parameter (plain (i.Parameter f xs)) = true
is_parameter _ = false

-- whether a block declares one (clause 12.4; profile)
abbrev pub has_block_parameter : Scope → Bool
has_block_parameter s = not (is_instance s.kind) && list_any is_parameter s.pieces
