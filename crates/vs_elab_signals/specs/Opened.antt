-- What the scopes of a list are.
use Rattle.std.specs.Prelude.{◌≡◌, ℕ, ◌<◌, ◌≤◌, List, [], ◌∷◌, Option, Some, None, IsSome, false, length, map, slice_get}
use Rattle.std.specs.List.{flat_map, AllZip}
use Rattle.vs_syntax.specs.declared.tree.Module.{Module}
use Rattle.vs_design.specs.declared.design.ScopeKind.{ScopeKind}
use Rattle.vs_design.specs.declared.design.ScopeKind.TheVariants as opened_by
use Rattle.vs_elab_signals.specs.vs_widths.specs.Names.{meaning_of, by_bytes}
use Rattle.vs_elab_signals.specs.vs_scopes.specs.Pieces.{NamedBlock}
use Rattle.vs_elab_signals.specs.vs_scopes.specs.Reads.{read_piece}
use Rattle.vs_scopes.specs.declared.faults.Reason.{Reason}
use Rattle.vs_scopes.specs.Printed.{Path}
use Rattle.vs_scopes.specs.Nets.{Sight, nothing_seen, first_net}
use Rattle.vs_scopes.specs.Scopes.{Scope, nowhere, outward, seen_from, bindings_of, environment, named, named_at, inner_of, sight_in, has_wrong_end, scopes_of}
use Rattle.vs_scopes.specs.Generate as g
use Rattle.vs_scopes.specs.scopes_passes.Answers.{borrowed}
use Rattle.vs_scopes.specs.scopes_passes.Names.{read_title}
use Rattle.vs_scopes.specs.scopes_passes.Parts.{read_port, read_ends}
use Rattle.vs_elab_signals.specs.declared.opened.ElabScope.{ElabScope as FoundScope}
use Rattle.vs_elab_signals.specs.declared.opened.Hierarchy.{Hierarchy}
use Rattle.vs_elab_signals.specs.Outlines.{declared, signals_of, IsEntry, outline_of}
use Rattle.vs_elab_signals.specs.ScopeFaults.{HasOpeningFault}

-- the scope at a place among these that stands around a scope
pub record IsWithin (ss : List Scope) (place : ℕ) (s : Scope) : Type 0 where
  pub outer_scope : Scope
  pub stands : slice_get ss place ≡ Some outer_scope
  pub before : place < s.number
  pub path : s.path ≡ named_at outer_scope s.title
  pub around : s.around ≡ outer_scope.path
  pub outer : s.outer ≡ environment outer_scope

-- a scope that stands in no other one
pub record IsOutermost (s : Scope) : Type 0 where
  pub kind : s.kind ≡ opened_by.Module
  pub path : s.path ≡ s.title ∷ []
  pub around : s.around ≡ []
  pub outer : s.outer ≡ nowhere

-- where a scope stands among these: around it is the one at this place, or none
abbrev pub HasParentScope : List Scope → Option ℕ → Scope → Type 0
HasParentScope ss None s = IsOutermost s
HasParentScope ss (Some place) s = IsWithin ss place s

-- how names stand outward of a scope of this kind that the piece at a place of another one opens: those of a module aren't seen in its instances
-- (clause 12.7)
abbrev pub sight_from : ScopeKind → Scope → ℕ → List ℕ → Sight
sight_from opened_by.Module outer piece = nothing_seen
sight_from opened_by.Begin outer piece = sight_in outer piece

-- how names stand around a scope that the piece at a place of the scope at another place among these opens
pub record IsSeenFrom (ss : List Scope) (place piece : ℕ) (s : Scope) : Type 0 where
  pub outer_scope : Scope
  pub stands : slice_get ss place ≡ Some outer_scope
  pub sight : s.sight ≡ sight_from s.kind outer_scope piece

-- how names stand around a scope: around it is the one at this place among these, or none
abbrev pub HasSight : List Scope → Option ℕ → ℕ → Scope → Type 0
HasSight ss None piece s = s.sight ≡ nothing_seen
HasSight ss (Some place) piece s = IsSeenFrom ss place piece s

-- the scope at a place among these is the instance that a scope stands in
pub record IsHome (ss : List Scope) (place : ℕ) (s : Scope) : Type 0 where
  pub home_scope : Scope
  pub stands : slice_get ss place ≡ Some home_scope
  pub kind : home_scope.kind ≡ opened_by.Module
  pub path : s.home ≡ home_scope.path
  pub within : s.within ≡ home_scope.within

-- the modules that a scope of this kind says it stands in: an instance has them, and a block has those of its home
abbrev pub SaysModules : ScopeKind → List (List ℕ) → Scope → Type 0
SaysModules opened_by.Module ns s = ns ≡ s.within
SaysModules opened_by.Begin ns s = Unit {0}

-- The scope that one of a list stands for, among these, but for what its names are bound to: scopes around are told by their places.
pub record IsScopeOf (ss : List Scope) (o : FoundScope) (s : Scope) : Type 0 where
  pub title : read_title o.title ≡ s.title
  pub kind : o.kind ≡ s.kind
  pub number : o.number ≡ s.number
  pub base : o.base ≡ s.base
  pub instances : o.instances ≡ s.instances
  pub turns : o.turns ≡ s.turns
  pub depth : o.depth ≡ s.depth
  pub nets : o.nets ≡ s.nets
  pub text : (n : List ℕ) → meaning_of o.text n ≡ meaning_of s.text n
  pub told : (n : List ℕ) → meaning_of o.told n ≡ first_net s.pieces n
  pub ports : map read_port o.ports.items ≡ s.ports
  pub pieces : map read_piece o.pieces.items ≡ s.pieces
  pub constants : by_bytes o.constants.items ≡ s.constants
  pub known : (n : List ℕ) → outward o.known (seen_from s.kind s.outer) n ≡ s.known n
  pub within : SaysModules s.kind (borrowed o.within.items) s
  pub home : IsHome ss o.home s
  pub around : HasParentScope ss o.around s
  pub sight : HasSight ss o.around o.piece s
  pub ends : read_ends o.ends.items ≡ s.ends
  pub lefts : has_wrong_end s.ports s.ends ≡ false

-- The scope that one of a list stands for, among these: it has the names that the scope itself binds.
pub record IsOpened (ss : List Scope) (o : FoundScope) (s : Scope) : Type 0 where
  pub entered : IsScopeOf ss o s
  pub names : (n : List ℕ) → meaning_of o.names n ≡ meaning_of (bindings_of s) n

-- the scopes of a list stand for these, each at the place that is its number
pub record AreOpened (list : List FoundScope) (ss : List Scope) : Type 0 where
  pub each : AllZip (IsOpened ss) list ss
  pub places : (place : ℕ) (s : Scope) → slice_get ss place ≡ Some s → s.number ≡ place

-- the scopes of a list stand in ones before them, and their homes aren't behind them
pub record AreSeated (list : List FoundScope) : Type 0 where
  pub around : (place k : ℕ) (o : FoundScope) → slice_get list place ≡ Some o → o.around ≡ Some k → k < place
  pub home : (place : ℕ) (o : FoundScope) → slice_get list place ≡ Some o → o.home ≤ place

-- where the scope inside a scope of this name, which is no turn of a loop, stands among these
pub record IsScopeInside (ss : List Scope) (s : Scope) (n : List ℕ) (place : ℕ) : Type 0 where
  pub inner : Scope
  pub stands : slice_get ss place ≡ Some inner
  pub path : inner.path ≡ named s n

-- the scopes inside a scope by their names: each name has the place of one, and each named block has one (clause 9.8.3)
pub record HasBlocks (ss : List Scope) (o : FoundScope) (s : Scope) : Type 0 where
  pub found : (n : List ℕ) (place : ℕ) → meaning_of o.blocks n ≡ Some place → IsScopeInside ss s n place
  pub all : (k : ℕ) (x : NamedBlock) → slice_get (inner_of s) k ≡ Some (g.named x) → IsSome (meaning_of o.blocks x.name)

-- The scopes of a source with a top, in design order, with their signals and their outline: none of them has a fault, but that those of continuous
-- assignments and processes aren't looked for.
pub record OpensAll (ms : List Module) (top : List ℕ) (x : Hierarchy) : Type 0 where
  pub none : (r : Reason) (p : Path) → HasOpeningFault ms top r p → ⊥
  pub scopes : AreOpened x.scopes.items (scopes_of ms top)
  pub blocks : AllZip (HasBlocks (scopes_of ms top)) x.scopes.items (scopes_of ms top)
  pub signals : map declared x.signals.items ≡ flat_map signals_of (scopes_of ms top)
  pub room : length x.signals.items ≤ 65536
  pub outline : AllZip IsEntry x.outline.items (outline_of ms top)
