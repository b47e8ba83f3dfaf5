-- The names that a scope declares.
use Rattle.std.specs.Prelude.{ℕ, pos, ◌-ℤ◌, unsigned_abs, Bool, true, false, ◌&&◌, ◌||◌, ◌==◌, not, min, is_some, List, [], ◌∷◌, ◌++◌, Option, Some, None, map, if◌then◌else◌}
use Rattle.std.proofs.Common.{lit<, lit≤}
use Rattle.std.proofs.Math.Nat.{zero-lt-suc, lt_of_le_of_lt, min-le_right}
use Rattle.std.specs.List.{flat_map, list_any}
use Rattle.std.specs.Str.{bytes_eq}
use Rattle.std.specs.declared.vec.Vec.{Vec}
use Rattle.std.specs.declared.alloc.Global.{Global}
use Rattle.vs_syntax.specs.declared.tree.Declarator.{Declarator}
use Rattle.vs_syntax.specs.declared.tree.Form.{Form}
use Rattle.vs_syntax.specs.declared.tree.Range.{Range}
use Rattle.vs_syntax.specs.declared.tree.Connections.{Connections}
use Rattle.vs_syntax.specs.declared.tree.Instance.{Instance}
use Rattle.vs_syntax.specs.declared.tree.Local.{Local}
use Rattle.vs_syntax.specs.declared.tree.LocalDeclaration.{LocalDeclaration}
use Rattle.vs_syntax.specs.declared.tree.LocalDeclaration.TheVariants as l
use Rattle.vs_syntax.specs.declared.tree.Item.{Item}
use Rattle.vs_syntax.specs.declared.tree.Item.TheVariants as i
use Rattle.vs_design.specs.declared.signal.Bounds.{Bounds}
use Rattle.vs_design.specs.declared.signal.SignalKind.{SignalKind}
use Rattle.vs_design.specs.declared.signal.SignalKind.TheVariants as k
use Rattle.vs_widths.specs.declared.shape.Shape.{Shape}
use Rattle.vs_widths.specs.declared.bindings.Meaning.{Meaning}
use Rattle.vs_widths.specs.declared.bindings.Binding.{Binding}
use Rattle.vs_widths.specs.declared.bindings.Binding.TheVariants as b
use Rattle.vs_widths.specs.Environment.{Environment}
use Rattle.vs_scopes.specs.Pieces.{NamedBlock, blocks_of, Piece, plain, loop, choice, local, inside, net, content_of, block_name, branch_names, other_names}
use Rattle.vs_scopes.specs.declared.faults.Reason.{Reason}
use Rattle.vs_scopes.specs.declared.faults.Reason.TheVariants.{Width}
use Rattle.vs_scopes.specs.Ranges.{Sized, sized_as, range_bounds, distance_or, Words, words_as, word_count}
use Rattle.vs_scopes.specs.Parameters.{Parameter}
use Rattle.vs_scopes.specs.Ports.{ModulePort, KindSaid, kind_said, without_name, names_where, is_joined}

-- names with what they are bound to
abbrev pub Bindings : Type 0
Bindings = List (List ℕ × Binding)

-- ---- declared names

-- a name that a scope declares as a signal, as what, with which size and sign, and with which words (clauses 4.2, 4.3 and 4.9)
pub record DeclaredName : Type 0 where
  pub kind : SignalKind
  pub size : Sized
  pub words : Words
  pub name : List ℕ

-- the size and sign of a declaration: a scalar has one bit, an `integer` 32 bits and a sign (clauses 4.2.1, 4.2.2, 4.3.1 and 4.8; 32: profile)
abbrev pub size_of_kind : Environment → SignalKind → Form → Sized
size_of_kind env k.Wire f = sized_as env f.signed 0 f.range
size_of_kind env k.Reg f = sized_as env f.signed 0 f.range
size_of_kind env k.Integer f = sized_as env true 31 f.range

-- the name that a port declares, where names are bound so in its range (clause 12.3.3)
abbrev pub declared_by_port : Environment → ModulePort → DeclaredName
declared_by_port env p = record { kind = p.kind; size = size_of_kind env p.kind p.form; words = words_as env p.kind None; name = p.name }

-- the name that a declarator declares, where names are bound so in the range of its words
abbrev pub declared_by : Environment → SignalKind → Sized → Declarator → DeclaredName
declared_by env kind size d = record { kind = kind; size = size; words = words_as env kind d.words; name = d.name.items }

abbrev pub declared_as : Environment → SignalKind → Sized → List Declarator → List DeclaredName
declared_as env kind size ds = map (declared_by env kind size) ds

-- the names of signals that an item declares, with ranges in which names are bound so (clauses 4.2.1, 4.2.2 and 4.8)
abbrev pub declared_by_item : Environment → Item → List DeclaredName
declared_by_item env (i.Wire f ds) = declared_as env k.Wire (sized_as env f.signed 0 f.range) ds.items
declared_by_item env (i.Reg f ds) = declared_as env k.Reg (sized_as env f.signed 0 f.range) ds.items
declared_by_item env (i.Integer ds) = declared_as env k.Integer (sized_as env true 31 None) ds.items
declared_by_item env _ = []

-- the name that a declaration of a named block declares, where names are bound so in the range of its words
abbrev pub declared_local : Environment → SignalKind → Sized → Local → DeclaredName
declared_local env kind size x = record { kind = kind; size = size; words = words_as env kind x.words; name = x.name.items }

-- the names that a declaration of a named block declares (clause 9.8.3)
abbrev pub declared_locally : Environment → LocalDeclaration → List DeclaredName
declared_locally env (l.Reg f xs) = map (declared_local env k.Reg (sized_as env f.signed 0 f.range)) xs.items
declared_locally env (l.Integer xs) = map (declared_local env k.Integer (sized_as env true 31 None)) xs.items

-- the name that an implicit net declares: a scalar (clause 4.5)
abbrev pub declared_net : Environment → List ℕ → DeclaredName
declared_net env n = record { kind = k.Wire; size = sized_as env false 0 None; words = words_as env k.Wire None; name = n }

-- the names of signals that a piece declares
abbrev pub declared_in : Environment → Piece → List DeclaredName
declared_in env (plain x) = declared_by_item env x
declared_in env (local x) = declared_locally env x
declared_in env (net n) = declared_net env n ∷ []
declared_in env _ = []

-- declared names without the first of each of these, which declare ports that other items declare too
abbrev pub not_joined : List (List ℕ) → List DeclaredName → List DeclaredName
not_joined ns [] = []
not_joined ns (d ∷ ds) = if list_any (bytes_eq d.name) ns then not_joined (without_name d.name ns) ds else d ∷ not_joined ns ds

-- the names of signals that the pieces of a scope declare, one that declares a port once more among them
abbrev pub declared_among : Environment → List Piece → List DeclaredName
declared_among env ps = flat_map (declared_in env) ps

-- the names of signals that a scope declares: its ports in their order, and the others in the order of the text (clause 12.3.3)
abbrev pub declared_names : Environment → List ModulePort → List Piece → List DeclaredName
declared_names env ports ps = map (declared_by_port env) ports ++ not_joined (names_where is_joined ports) (declared_among env ps)

-- a fault of a range of a declared name, of its bits or of its words
abbrev pub declaration_fault : Reason → DeclaredName → Bool
declaration_fault (Width w) d = d.size.faults w || d.words.faults (Width w)
declaration_fault r d = d.words.faults r

abbrev pub names_in : List DeclaredName → List (List ℕ)
names_in ds = map (λ (d : DeclaredName). d.name) ds

-- the range by which bits of a signal are selected: that of its declaration, and of an `integer` without one [31:0] (clauses 4.3.1 and 4.8; 32:
-- profile)
abbrev pub selectable : SignalKind → Option Bounds → Option Bounds
selectable k.Wire range = range
selectable k.Reg range = range
selectable k.Integer None = Some (record { left = pos 31; right = pos 0 })
selectable k.Integer (Some range) = Some range

-- what a declared name means
abbrev pub meaning_as : DeclaredName → Meaning
meaning_as d = record {
  kind = d.kind;
  shape = d.size.shape;
  bits = selectable d.kind d.size.bounds;
  words = d.words.bounds;
  count = word_count d.words.bounds;
  counted = (zero-lt-suc (min (distance_or 0 d.words.bounds) 65535), lt_of_le_of_lt (min-le_right (distance_or 0 d.words.bounds) 65535) (lit< tt));
}

-- ---- ports that two items declare

-- whether two ranges have the same bounds, or there is none of both
abbrev pub are_same_bounds : Option Bounds → Option Bounds → Bool
are_same_bounds None None = true
are_same_bounds (Some a) (Some b) = (unsigned_abs (a.left -ℤ b.left) == 0) && (unsigned_abs (a.right -ℤ b.right) == 0)
are_same_bounds _ _ = false

abbrev pub differs_from : Environment → Option Range → Option KindSaid → Bool
differs_from env range None = false
differs_from env range (Some x) = is_some x.words || not (are_same_bounds (range_bounds env range) (range_bounds env x.form.range))

-- whether a port is declared by two items with different ranges, or as an array (clause 12.3.3; profile)
abbrev pub is_unlike : Environment → List Piece → ModulePort → Bool
is_unlike env ps p = is_joined p.source && differs_from env p.form.range (kind_said ps p.name)

-- ---- instances

-- an instance as the text has it: its module's name, what overrides the parameters, its own name, and what its ports are connected to (clause 12.1.2)
pub record Use : Type 0 where
  pub of : List ℕ
  pub overrides : Option Connections
  pub name : List ℕ
  pub ports : Connections

abbrev pub use_of : List ℕ → Option Connections → Instance → Use
use_of n o x = record { of = n; overrides = o; name = x.name.items; ports = x.ports }

-- the instances of an item (clause 12.1.2)
abbrev pub uses_by_item : Item → List Use
uses_by_item (i.Instances n o xs) = map (use_of n.items o) xs.items
uses_by_item _ = []

-- the instances of a piece
abbrev pub uses_in : Piece → List Use
uses_in (plain x) = uses_by_item x
uses_in _ = []

abbrev pub uses_among : List Piece → List Use
uses_among ps = flat_map uses_in ps

-- ---- other names

-- the genvars that a piece declares (clause 12.4.1)
abbrev pub genvars_in : Piece → List (List ℕ)
genvars_in (plain (i.Genvar ns)) = map (λ (n : Vec ℕ Global). n.items) ns.items
genvars_in _ = []

-- names, each once
abbrev pub each_once : List (List ℕ) → List (List ℕ)
each_once [] = []
each_once (n ∷ ns) = if list_any (bytes_eq n) ns then each_once ns else n ∷ each_once ns

-- the names of the scopes that a piece may open, as the text has them: of instances, of generate blocks, also of a branch that isn't taken, and of named
-- blocks; the branches of one `if` may have one name (clauses 12.1.2, 12.4.3 and 9.8.3; the branches: profile)
abbrev pub inner_names_in : Piece → List (List ℕ)
inner_names_in (plain x) = map (λ (u : Use). u.name) (uses_by_item x) ++ map (λ (b : NamedBlock). b.name) (blocks_of x)
inner_names_in (loop h x) = block_name (content_of x)
inner_names_in (choice e x o) = each_once (branch_names x ++ other_names o)
inner_names_in (local x) = []
inner_names_in (inside b) = b.name ∷ []
inner_names_in (net n) = []

abbrev pub inner_names_among : List Piece → List (List ℕ)
inner_names_among ps = flat_map inner_names_in ps

abbrev pub bound_to : Binding → List (List ℕ) → Bindings
bound_to x ns = map (λ (n : List ℕ). (n, x)) ns

-- ---- names before the values of parameters are known

-- the size and sign of a signal without a range (clause 4.3.1)
abbrev pub scalar : Shape
scalar = record { width = 1; signed = false; sized = (lit< tt, lit≤ tt) }

-- what a signal's name is bound to by the text: its size, ranges and number don't matter there
abbrev pub unsized_of : SignalKind → Binding
unsized_of kind = b.Signal (record { kind = kind; shape = scalar; bits = None; words = None; count = 1; counted = (lit< tt, lit≤ tt) }) 0

-- what it is bound to in the constant expressions of its own scope: it is no constant there, with selects or without them (clauses 4.10 and 5.2)
abbrev pub valueless_of : SignalKind → Binding
valueless_of kind = b.Pending

-- names of signals, each bound by its kind
abbrev pub signal_names : (SignalKind → Binding) → List DeclaredName → Bindings
signal_names bound ds = map (λ (d : DeclaredName). (d.name, bound d.kind)) ds

abbrev pub pending_names : List Parameter → Bindings
pending_names ps = map (λ (p : Parameter). (p.name, b.Pending)) ps

-- what the names of a scope are bound to before the values of its parameters are known, where signals are bound so by their kinds: by its parameters,
-- its ports and its pieces (clause 12.7)
abbrev pub early_names : (SignalKind → Binding) → List Parameter → List ModulePort → List Piece → Bindings
early_names bound xs ports ps =
    pending_names xs ++ signal_names bound (map (declared_by_port (λ n. None)) ports ++ declared_among (λ n. None) ps) ++
    bound_to b.Genvar (flat_map genvars_in ps) ++ bound_to b.Other (inner_names_among ps)
