-- The ports of a module.
use Rattle.std.specs.Prelude.{ℕ, Bool, true, false, ◌||◌, not, is_none, List, [], ◌∷◌, Option, Some, None, map, if◌then◌else◌}
use Rattle.std.specs.List.{list_any, flat_map}
use Rattle.std.specs.Str.{bytes_eq}
use Rattle.std.specs.declared.vec.Vec.{Vec}
use Rattle.std.specs.declared.alloc.Global.{Global}
use Rattle.vs_syntax.specs.declared.tree.Declarator.{Declarator}
use Rattle.vs_syntax.specs.declared.tree.Expr.{Expr}
use Rattle.vs_syntax.specs.declared.tree.Form.{Form}
use Rattle.vs_syntax.specs.declared.tree.Range.{Range}
use Rattle.vs_syntax.specs.declared.tree.Direction.{Direction}
use Rattle.vs_syntax.specs.declared.tree.Direction.TheVariants.{Input, Output}
use Rattle.vs_syntax.specs.declared.tree.PortKind.{PortKind}
use Rattle.vs_syntax.specs.declared.tree.PortKind.TheVariants as q
use Rattle.vs_syntax.specs.declared.tree.PortForm.{PortForm}
use Rattle.vs_syntax.specs.declared.tree.Port.{Port}
use Rattle.vs_syntax.specs.declared.tree.Module.{Module}
use Rattle.vs_syntax.specs.declared.tree.Item.TheVariants as i
use Rattle.vs_design.specs.declared.signal.SignalKind.{SignalKind}
use Rattle.vs_design.specs.declared.signal.SignalKind.TheVariants as k
use Rattle.vs_design.specs.Kinds.{is_variable}
use Rattle.vs_scopes.specs.Pieces.{Piece, plain, pieces_of}
use Rattle.vs_scopes.specs.Parameters.{said}

-- what says which way a port goes: the header; an item, which says what it is declared as too, or leaves that to another item; or nothing
-- (clauses 12.3.3 and 12.3.4)
pub data PortSource : Type 0 where
  by_header : PortSource
  by_item : PortSource
  by_items : PortSource
  by_none : PortSource

-- a port of a module: its direction, what it is declared as, its sign and range, its name, the value in its declaration, and what says so (clause 12.3)
pub record ModulePort : Type 0 where
  pub direction : Direction
  pub kind : SignalKind
  pub form : Form
  pub name : List ℕ
  pub value : Option Expr
  pub source : PortSource

-- what a port is declared as: a net where the text doesn't say (clause 12.3.3)
abbrev pub kind_of_port : Option PortKind → SignalKind
kind_of_port None = k.Wire
kind_of_port (Some q.Wire) = k.Wire
kind_of_port (Some q.Reg) = k.Reg
kind_of_port (Some q.Integer) = k.Integer

-- a sign, and no range
abbrev pub scalar_form : Bool → Form
scalar_form signed = record { signed = signed; range = None }

-- ---- ports that the header declares

-- a port by what the header says of it; the grammar says something of the first one (clause 12.3.4)
abbrev pub port_as : Option PortForm → List ℕ → Option Expr → ModulePort
port_as None n v = record { direction = Input; kind = k.Wire; form = scalar_form false; name = n; value = v; source = by_none }
port_as (Some f) n v = record { direction = f.direction; kind = kind_of_port f.kind; form = f.form; name = n; value = v; source = by_header }

abbrev pub ports_from : Option PortForm → List Port → List ModulePort
ports_from before [] = []
ports_from before (p ∷ ps) = port_as (said before p.form) p.name.items p.value ∷ ports_from (said before p.form) ps

-- ---- ports that items declare

abbrev pub is_among : List ℕ → List (Vec ℕ Global) → Bool
is_among n ns = list_any (λ (x : Vec ℕ Global). bytes_eq n x.items) ns

-- what a piece says of a port of this name by `input` or `output` (clause 12.3.3)
abbrev pub said_in : Piece → List ℕ → Option PortForm
said_in (plain (i.Port f ns)) n = if is_among n ns.items then Some f else None
said_in _ n = None

-- what the first such item says (clause 12.3.3)
abbrev pub port_said : List Piece → List ℕ → Option PortForm
port_said [] n = None
port_said (p ∷ ps) n = said (port_said ps n) (said_in p n)

-- what a declaration of a net or of variables says of one of its names
pub record KindSaid : Type 0 where
  pub kind : SignalKind
  pub form : Form
  pub words : Option Range

abbrev pub kind_among : SignalKind → Form → List Declarator → List ℕ → Option KindSaid
kind_among kind f [] n = None
kind_among kind f (d ∷ ds) n = if bytes_eq n d.name.items then Some (record { kind = kind; form = f; words = d.words }) else kind_among kind f ds n

-- what a piece declares a name as (clauses 4.2.1, 4.2.2 and 4.8)
abbrev pub kind_in : Piece → List ℕ → Option KindSaid
kind_in (plain (i.Wire f ds)) n = kind_among k.Wire f ds.items n
kind_in (plain (i.Reg f ds)) n = kind_among k.Reg f ds.items n
kind_in (plain (i.Integer ds)) n = kind_among k.Integer (scalar_form true) ds.items n
kind_in _ n = None

-- what the first such item declares it as
abbrev pub kind_said : List Piece → List ℕ → Option KindSaid
kind_said [] n = None
kind_said (p ∷ ps) n = said (kind_said ps n) (kind_in p n)

-- a port of which an item says the direction but not the kind: another item may declare it; it is signed where either says so (clause 12.3.3)
abbrev pub joined_port : PortForm → List ℕ → Option KindSaid → ModulePort
joined_port f n None = record { direction = f.direction; kind = k.Wire; form = f.form; name = n; value = None; source = by_item }
joined_port f n (Some x) = record {
  direction = f.direction;
  kind = x.kind;
  form = record { signed = f.form.signed || x.form.signed; range = f.form.range };
  name = n;
  value = None;
  source = by_items;
}

abbrev pub port_of_items : Option PortForm → List ℕ → Option KindSaid → ModulePort
port_of_items None n x = port_as None n None
port_of_items (Some f) n x =
    if is_none f.kind then joined_port f n x
    else record { direction = f.direction; kind = kind_of_port f.kind; form = f.form; name = n; value = None; source = by_item }

-- a port of which the header has the name alone, among the pieces of its module (clause 12.3.3)
abbrev pub port_by_items : List Piece → Port → ModulePort
port_by_items ps p = port_of_items (port_said ps p.name.items) p.name.items (kind_said ps p.name.items)

-- ---- the ports of a module

-- whether the header's list is one of names alone: nothing is said of the first (clause 12.3.2)
abbrev pub is_name_list : List Port → Bool
is_name_list [] = false
is_name_list (p ∷ ps) = is_none p.form

abbrev pub ports_of_header : List Piece → Option (Vec Port Global) → List ModulePort
ports_of_header pieces None = []
ports_of_header pieces (Some ps) = if is_name_list ps.items then map (port_by_items pieces) ps.items else ports_from None ps.items

-- the ports of a module, in their order (clauses 12.3.1 to 12.3.4)
abbrev pub ports_of : Module → List ModulePort
ports_of m = ports_of_header (pieces_of m.items.items) m.ports

abbrev pub port_names : List ModulePort → List (List ℕ)
port_names ps = map (λ (p : ModulePort). p.name) ps

-- whether a port of this direction and kind is an input and a variable, which no assignment from outside can drive (clause 12.3.3; profile)
abbrev pub is_wrong_as : Direction → SignalKind → Bool
is_wrong_as Input kind = is_variable kind
is_wrong_as Output kind = false

-- whether nothing says which way a port goes
abbrev pub is_unsaid : PortSource → Bool
is_unsaid by_none = true
is_unsaid _ = false

-- whether a port is none that a module can have (clause 12.3.3; profile)
abbrev pub is_wrong_port : ModulePort → Bool
is_wrong_port p = is_wrong_as p.direction p.kind || is_unsaid p.source

-- the names of ports that a piece declares (clause 12.3.3)
abbrev pub port_names_in : Piece → List (List ℕ)
port_names_in (plain (i.Port f ns)) = map (λ (n : Vec ℕ Global). n.items) ns.items
port_names_in _ = []

abbrev pub port_names_among : List Piece → List (List ℕ)
port_names_among ps = flat_map port_names_in ps

-- whether pieces declare a port that the header doesn't have (clause 12.3.3)
abbrev pub has_stray_port : List ModulePort → List Piece → Bool
has_stray_port ports ps = list_any (λ n. not (list_any (bytes_eq n) (port_names ports))) (port_names_among ps)

-- whether the header has a port's name alone
abbrev pub is_of_items : PortSource → Bool
is_of_items by_header = false
is_of_items _ = true

-- whether two items declare a port: one its direction, another its kind
abbrev pub is_joined : PortSource → Bool
is_joined by_items = true
is_joined _ = false

-- the names of ports of which this holds
abbrev pub names_where : (PortSource → Bool) → List ModulePort → List (List ℕ)
names_where test [] = []
names_where test (p ∷ ps) = if test p.source then p.name ∷ names_where test ps else names_where test ps

-- names without the first one that is this
abbrev pub without_name : List ℕ → List (List ℕ) → List (List ℕ)
without_name n [] = []
without_name n (m ∷ ms) = if bytes_eq n m then ms else m ∷ without_name n ms

-- names without the first of each of these
abbrev pub left_over : List (List ℕ) → List (List ℕ) → List (List ℕ)
left_over ns [] = []
left_over ns (m ∷ ms) = if list_any (bytes_eq m) ns then left_over (without_name m ns) ms else m ∷ left_over ns ms

-- the names of ports that pieces declare once more (clause 3.12)
abbrev pub ports_again : List ModulePort → List Piece → List (List ℕ)
ports_again ports ps = left_over (names_where is_of_items ports) (port_names_among ps)
