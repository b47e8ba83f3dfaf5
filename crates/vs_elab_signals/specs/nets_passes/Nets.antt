-- Implicit nets of scopes, a pass at a time.
use Rattle.std.specs.Prelude.{◌≡◌, ℕ, ◌<◌, Bool, true, List, ◌++◌, Some, length, map, slice_get}
use Rattle.std.specs.List.{flat_map}
use Rattle.vs_syntax.specs.declared.tree.ModuleItem.{ModuleItem}
use Rattle.vs_scopes.specs.vs_widths.specs.declared.constants.Const.{Const}
use Rattle.vs_elab_constants.specs.vs_widths.specs.Names.{meaning_of}
use Rattle.vs_elab_signals.specs.vs_scopes.specs.Pieces.{Piece, net}
use Rattle.vs_elab_signals.specs.vs_scopes.specs.Reads.{read_piece}
use Rattle.vs_elab_signals.specs.vs_scopes.specs.declared.scope.ScopePiece.{ScopePiece as FoundPiece}
use Rattle.vs_scopes.specs.declared.faults.Reason.{Reason}
use Rattle.vs_scopes.specs.declared.faults.Reason.TheVariants.{DeclaredTwice}
use Rattle.vs_scopes.specs.Printed.{PathName, Path}
use Rattle.vs_scopes.specs.Declarations.{Bindings}
use Rattle.vs_scopes.specs.Nets.{Sight, coming_paths, new_among, is_known, pieces_with_nets, first_net}
use Rattle.vs_scopes.specs.Generate.{Inner, generated}
use Rattle.vs_scopes.specs.Scopes.{Scope, named, is_implicit, sight_in}
use Rattle.vs_scopes.specs.scopes_passes.Parts.{IsSet}
use Rattle.vs_elab_signals.specs.Opened.{AreOpened, HasSight}
use Rattle.vs_elab_signals.specs.signal_passes.Sites.{outward_place}
use Rattle.vs_elab_signals.specs.declared.around.Enclosing.{Enclosing}
use Rattle.vs_elab_signals.specs.declared.members.Members.{Members}

-- what is around a scope, where these scopes stand before it
pub record IsAround (ss : List Scope) (x : Enclosing) (s : Scope) : Type 0 where
  pub opened : AreOpened x.list.now ss
  pub sight : HasSight ss x.around x.piece s
  pub kind : x.kind ≡ s.kind

-- the scope whose names are seen in one is in the list
abbrev pub IsPlaced : Enclosing → Type 0
IsPlaced x = (place : ℕ) → outward_place x.kind x.around ≡ Some place → place < length x.list.now

-- names that mean what those do
abbrev pub MeansAs : {V : Type 0} → List (List ℕ × V) → List (List ℕ × V) → Type 0
MeansAs bs names = (n : List ℕ) → meaning_of names n ≡ meaning_of bs n

-- the names that the text of a scope declares, and the places of its ports and nets
pub record HasNetPlaces (s : Scope) (text : Bindings) (told : List (List ℕ × ℕ)) : Type 0 where
  pub names : (n : List ℕ) → meaning_of text n ≡ meaning_of s.text n
  pub places : (n : List ℕ) → meaning_of told n ≡ first_net s.pieces n

-- what stands in a scope of these pieces, whose text declares these names, where names stand so around it
pub record AreMembers (nets : Bool) (bs : Bindings) (around : List ℕ → Sight) (ps : List Piece) (m : Members) : Type 0 where
  pub text : (n : List ℕ) → meaning_of m.text n ≡ meaning_of bs n
  pub pieces : map read_piece m.pieces.items ≡ pieces_with_nets nets bs around ps
  pub told : (n : List ℕ) → meaning_of m.told n ≡ first_net (pieces_with_nets nets bs around ps) n

-- pieces with the nets of names behind them, where pieces used those names before
pub record AddsNets (text : Bindings) (around : List ℕ → Sight) (before ns : List (List ℕ)) (there : List (List ℕ × Bool)) (old new : List FoundPiece) : Type 0 where
  pub used : IsSet (before ++ ns) there
  pub nets : map read_piece new ≡ map read_piece old ++ map net (new_among (is_known text around) before ns)

-- one of these paths is that of a net that is declared behind its use
abbrev pub IsLate : List Path → Reason → Path → Type 0
IsLate ps DeclaredTwice p = (k : ℕ) × (slice_get ps k ≡ Some p)
IsLate ps _ p = ⊥

-- the nets that names of a place are, where they are declared behind it
abbrev pub late_among : Scope → ℕ → List (List ℕ) → List Path
late_among s place ns = flat_map (λ n. coming_paths (sight_in s place n)) ns

-- a name is that of an implicit net of a scope
abbrev pub IsNetName : Scope → List ℕ → Reason → Path → Type 0
IsNetName s n DeclaredTwice p = (is_implicit s n ≡ true) × (p ≡ named s n)
IsNetName s n _ p = ⊥

-- one of these generate blocks has the name of an implicit net of a scope
pub record NamesNet (s : Scope) (xs : List Inner) (p : Path) : Type 0 where
  pub place : ℕ
  pub piece : ℕ
  pub title : PathName
  pub constants : List (List ℕ × Const)
  pub items : List ModuleItem
  pub stands : slice_get xs place ≡ Some (generated piece title constants items)
  pub holds : is_implicit s title.name ≡ true
  pub path : p ≡ named s title.name

abbrev pub IsNamedAsNet : Scope → List Inner → Reason → Path → Type 0
IsNamedAsNet s xs DeclaredTwice p = NamesNet s xs p
IsNamedAsNet s xs _ p = ⊥
