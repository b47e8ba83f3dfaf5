-- A scope's own members: its names, its signals and their faults.
use Rattle.std.specs.Prelude.{◌≡◌, ℕ, ◌+◌, ◌<◌, ◌≤◌, ◌⊎◌, ◌&&◌, not, Bool, true, false, List, [], ◌∷◌, ◌++◌, Some, length, map}
use Rattle.std.specs.List.{list_any, AllZip, IsDistinct}
use Rattle.std.specs.Str.{bytes_eq}
use Rattle.vs_design.specs.declared.design.ScopeKind.{ScopeKind}
use Rattle.vs_design.specs.declared.design.Entry.{Entry}
use Rattle.vs_widths.specs.Names.{meaning_of}
use Rattle.vs_elab_signals.specs.vs_scopes.specs.Pieces.{Piece}
use Rattle.vs_scopes.specs.declared.faults.Reason.{Reason}
use Rattle.vs_scopes.specs.declared.faults.Reason.TheVariants.{PortMismatch, ParameterMismatch, DeclaredTwice, Limit, Width}
use Rattle.vs_scopes.specs.Printed.{printed_part, plainly, Path}
use Rattle.vs_scopes.specs.Ports.{ModulePort, is_wrong_port, has_stray_port, ports_again}
use Rattle.vs_scopes.specs.Declarations.{Bindings, DeclaredName, declaration_fault, declared_by_port, declared_among, is_unlike}
use Rattle.vs_scopes.specs.Scopes.{Scope, bindings_of, keys, all_names_of, declarations_of, named, late_nets, turns_in, instance_count, turn_count, levels, is_instance, is_parameter, has_block_parameter}
use Rattle.vs_elab_signals.specs.declared.opened.ElabScope.{ElabScope as FoundScope}
use Rattle.vs_elab_signals.specs.declared.opened.Numbering.{Numbering}
use Rattle.vs_elab_signals.specs.Outlines.{declared, signals_of, Line, enter, declare_from, IsEntry}
use Rattle.vs_elab_signals.specs.ScopeFaults.{Repeated, DeclaresTwice, HasWrongPort, HasUnlikePort, HasStrayPort, HasBlockParameter, HasLateNet, HasRangeFault, PassesLimit, PassesTurns}
use Rattle.vs_elab_signals.specs.Opened.{IsScopeOf}
use Rattle.vs_elab_signals.specs.signal_passes.Sites.{passes_limit}
use Rattle.vs_elab_signals.specs.signal_passes.Naming.{Bound}
use Rattle.vs_elab_signals.specs.signal_passes.Declaring.{SameCounts, Keeps}

-- the names that a scope declares, one that declares a port once more among them
abbrev pub all_declared : Scope → List DeclaredName
all_declared s = map (declared_by_port s.known) s.ports ++ declared_among s.known s.pieces

-- a scope whose own members have no fault
pub record IsSoundOwn (s : Scope) : Type 0 where
  pub distinct : IsDistinct bytes_eq (all_names_of s)
  pub again : ports_again s.ports s.pieces ≡ []
  pub sized : (r : Reason) → list_any (declaration_fault r) (all_declared s) ≡ false
  pub ports : list_any is_wrong_port s.ports ≡ false
  pub stray : has_stray_port s.ports s.pieces ≡ false
  pub parameters : has_block_parameter s ≡ false
  pub alike : list_any (is_unlike s.known s.pieces) s.ports ≡ false
  pub shallow : s.depth ≤ levels
  pub few : passes_limit s.kind s.instances (length s.path) ≡ false
  pub turns : s.turns + turns_in s ≤ 65536
  pub nets : late_nets s ≡ []
  pub room : s.base + length (declarations_of s) ≤ 65536

-- the condition of a fault of a scope's own members, with its path
abbrev pub HoldsOwn : Scope → Reason → Path → Type 0
HoldsOwn s PortMismatch p = HasWrongPort s p ⊎ HasStrayPort s p
HoldsOwn s ParameterMismatch p = HasBlockParameter s p
HoldsOwn s DeclaredTwice p = DeclaresTwice s p ⊎ HasUnlikePort s p ⊎ HasLateNet s p
HoldsOwn s Limit p = PassesLimit s p ⊎ PassesTurns s p ⊎ HasRangeFault s Limit p
HoldsOwn s (Width w) p = HasRangeFault s (Width w) p
HoldsOwn s _ p = ⊥

-- a scope that passes no limit, with ports that a module can have
pub record IsFitting (s : Scope) : Type 0 where
  pub shallow : s.depth ≤ levels
  pub few : passes_limit s.kind s.instances (length s.path) ≡ false
  pub ports : list_any is_wrong_port s.ports ≡ false

-- a scope that declares no port that its header doesn't have, and as a block no parameter
pub record HasFittingPieces (s : Scope) : Type 0 where
  pub stray : has_stray_port s.ports s.pieces ≡ false
  pub parameters : has_block_parameter s ≡ false

-- whether a scope of this kind and these pieces is a block with a parameter that might be overridden
abbrev pub block_has_parameter : ScopeKind → List Piece → Bool
block_has_parameter kind ps = not (is_instance kind) && list_any is_parameter ps

-- a scope that uses no net that is declared behind
abbrev pub HasTimelyNets : Scope → Type 0
HasTimelyNets s = late_nets s ≡ []

-- how many turns of generate loops there are behind those of a scope, where a design may have as many (profile)
pub record HasFewTurns (s : Scope) (n : ℕ) : Type 0 where
  pub count : n ≡ s.turns + turns_in s
  pub few : n ≤ 65536

-- names mean what those of a scope do
abbrev pub NamesMean : Scope → Bindings → Type 0
NamesMean s names = (n : List ℕ) → meaning_of names n ≡ meaning_of (bindings_of s) n

-- ports that two items declare are declared alike
abbrev pub AreAlike : Scope → Type 0
AreAlike s = list_any (is_unlike s.known s.pieces) s.ports ≡ false

-- a name that pieces declare as a port once more, in the scope of a path
abbrev pub IsAgainNot : Path → List ModulePort → List Piece → Reason → Path → Type 0
IsAgainNot at ports ps DeclaredTwice p =
    (n : List ℕ) × (p ≡ at ++ plainly n ∷ []) × (list_any (bytes_eq n) (ports_again ports ps) ≡ true)
IsAgainNot at ports ps _ p = ⊥

-- the names of a scope's signals, from a start on
pub record DeclaresAll (s : Scope) (names : Bindings) (plan start : Numbering) : Type 0 where
  pub keeps : Keeps s names plan start (declarations_of s)
  pub sized : (r : Reason) → list_any (declaration_fault r) (all_declared s) ≡ false

-- why they get none: one is declared twice, there are too many, or a range has a fault
abbrev pub DeclaresAllNot : Scope → Numbering → Reason → Path → Type 0
DeclaresAllNot s start DeclaredTwice p = (n : List ℕ) × (p ≡ named s n) × Repeated (keys (bindings_of s)) n
DeclaresAllNot s start Limit p = ((65536 < length start.signals.items + length (declarations_of s)) × (p ≡ s.path)) ⊎ HasRangeFault s Limit p
DeclaresAllNot s start (Width w) p = HasRangeFault s (Width w) p
DeclaresAllNot s start _ p = ⊥

-- the first lines of a scope's outline: it opens under its printed name, and declares its signals
abbrev pub own_lines : Scope → List Line
own_lines s = enter s.kind (printed_part s.title) ∷ declare_from s.base (declarations_of s)

-- lines of an outline that were added
pub record AddsLines (lines : List Line) (old new : Numbering) : Type 0 where
  pub added : List Entry
  pub outline : new.outline.items ≡ old.outline.items ++ added
  pub mean : AllZip IsEntry added lines

-- the names of a scope that are bound, with its signals and the first lines of its outline
pub record Binds (s : Scope) (names : Bindings) (old new : Numbering) : Type 0 where
  pub bound : Bound names (bindings_of s)
  pub sized : (r : Reason) → list_any (declaration_fault r) (all_declared s) ≡ false
  pub shown : map declared new.signals.items ≡ map declared old.signals.items ++ signals_of s
  pub room : length new.signals.items ≤ 65536
  pub lines : AddsLines (own_lines s) old new
  pub same : SameCounts old new

-- why they aren't
abbrev pub BindsNot : Scope → Reason → Path → Type 0
BindsNot s DeclaredTwice p = (n : List ℕ) × (p ≡ named s n) × Repeated (keys (bindings_of s)) n
BindsNot s Limit p = ((65536 < s.base + length (declarations_of s)) × (p ≡ s.path)) ⊎ HasRangeFault s Limit p
BindsNot s (Width w) p = HasRangeFault s (Width w) p
BindsNot s _ p = ⊥

-- the same, where its ports are declared alike and once
pub record OpensNames (s : Scope) (names : Bindings) (old new : Numbering) : Type 0 where
  pub alike : AreAlike s
  pub binds : Binds s names old new
  pub again : ports_again s.ports s.pieces ≡ []

-- a scope's own members, which have no fault where its generate loops have no turn too many
pub record OpensOwn (s : Scope) (names : Bindings) (old new : Numbering) : Type 0 where
  pub sound : s.turns + turns_in s ≤ 65536 → IsSoundOwn s
  pub binds : Binds s names old new

-- the scope that is to follow these, with all of them before it
pub record EntersLast (ss : List Scope) (o : FoundScope) (s : Scope) : Type 0 where
  pub entered : IsScopeOf (ss ++ s ∷ []) o s
  pub number : s.number ≡ length ss
  pub instances : s.instances ≡ instance_count ss
  pub turns : s.turns ≡ turn_count ss

-- the scope around a scope is in a list
abbrev pub HasOuter : List FoundScope → FoundScope → Type 0
HasOuter list o = (place : ℕ) → o.around ≡ Some place → place < length list
