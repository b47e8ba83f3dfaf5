-- The faults of scopes, but for those of their continuous assignments and processes.
use Rattle.std.specs.Prelude.{◌≡◌, ℕ, ◌+◌, ◌<◌, Bool, true, false, List, [], ◌∷◌, ◌++◌, Option, Some, None, ◌⊎◌, length, map, slice_get}
use Rattle.std.specs.List.{list_any}
use Rattle.vs_syntax.specs.declared.tree.Module.{Module}
use Rattle.vs_syntax.specs.declared.tree.ModuleItem.{ModuleItem}
use Rattle.vs_scopes.specs.vs_widths.specs.declared.constants.Const.{Const}
use Rattle.vs_scopes.specs.vs_widths.specs.declared.faults.WidthReason.{WidthReason}
use Rattle.vs_elab_signals.specs.vs_scopes.specs.Pieces.{pieces_of}
use Rattle.vs_scopes.specs.declared.faults.Reason.{Reason}
use Rattle.vs_scopes.specs.declared.faults.Reason.TheVariants.{NoModule, Inside, PortMismatch, ParameterMismatch, DeclaredTwice, DrivenTwice, Limit, Width, Endless, Unnamed, Timescales, Format}
use Rattle.vs_scopes.specs.Printed.{PathName, plainly, Path}
use Rattle.vs_scopes.specs.Parameters.{given_to, is_override_mismatch, own_faults, outer_faults}
use Rattle.vs_scopes.specs.Ports.{ModulePort, has_stray_port, is_wrong_port}
use Rattle.vs_scopes.specs.Declarations.{declaration_fault, declared_by_port, declared_among, is_unlike, Use}
use Rattle.vs_scopes.specs.Generate.{generated, constructs_fault}
use Rattle.vs_scopes.specs.Scopes.{Scope, nowhere, is_instance, module_named, scopes_of, declarations_of, all_names_of, text_names, uses_of, inner_of, turns_in, late_nets, is_implicit, environment, early, block_fault, named, named_at, is_inside, is_port_mismatch, has_block_parameter, levels, deepest}

-- an element that stands twice among others
pub record Repeated {A : Type 0} (xs : List A) (x : A) : Type 0 where
  pub first : ℕ
  pub second : ℕ
  pub before : first < second
  pub one : slice_get xs first ≡ Some x
  pub other : slice_get xs second ≡ Some x

-- ---- faults of an instance

-- whether a test holds of the module of an instance
abbrev pub of_module : (Module → Bool) → Option Module → Bool
of_module test None = false
of_module test (Some m) = test m

-- an instance in a scope for which a test holds of it and its module, by the instance's path
pub record AtInstance (ms : List Module) (s : Scope) (test : Use → Module → Bool) (p : Path) : Type 0 where
  pub place : ℕ
  pub instance : Use
  pub stands : slice_get (uses_of s) place ≡ Some instance
  pub holds : of_module (test instance) (module_named ms instance.of) ≡ true
  pub path : p ≡ named s instance.name

-- an instance in a scope that is of no module (clause 12.1.2)
pub record HasNoModule (ms : List Module) (s : Scope) (p : Path) : Type 0 where
  pub place : ℕ
  pub instance : Use
  pub stands : slice_get (uses_of s) place ≡ Some instance
  pub none : module_named ms instance.of ≡ None
  pub path : p ≡ named s instance.name

-- a fault of a parameter of a module where it is instantiated in a scope (clause 12.2)
abbrev pub parameter_fault : WidthReason → Scope → Use → Module → Bool
parameter_fault w s u m = own_faults w (environment s) (early m) (given_to u.overrides m)

-- a fault of an expression that overrides a parameter of a module in a scope (clause 12.2.2)
abbrev pub override_fault : WidthReason → Scope → Use → Module → Bool
override_fault w s u m = outer_faults w (environment s) (given_to u.overrides m)

-- an instance in a scope of which an override has a fault, by the scope's path
pub record HasOverrideFault (ms : List Module) (s : Scope) (w : WidthReason) (p : Path) : Type 0 where
  pub place : ℕ
  pub instance : Use
  pub stands : slice_get (uses_of s) place ≡ Some instance
  pub holds : of_module (override_fault w s instance) (module_named ms instance.of) ≡ true
  pub path : p ≡ s.path

-- ---- faults of a scope

-- a name that a scope declares twice, by its path (clause 3.12)
pub record DeclaresTwice (s : Scope) (p : Path) : Type 0 where
  pub name : List ℕ
  pub repeated : Repeated (all_names_of s) name
  pub path : p ≡ named s name

-- a port of a scope that is none that a module can have, by the scope's path (clause 12.3.3; profile)
abbrev pub HasWrongPort : Scope → Path → Type 0
HasWrongPort s p = (list_any is_wrong_port s.ports ≡ true) × (p ≡ s.path)

-- a port of a scope that two items declare, not alike, by its path (clause 12.3.3; profile)
pub record HasUnlikePort (s : Scope) (p : Path) : Type 0 where
  pub place : ℕ
  pub port : ModulePort
  pub stands : slice_get s.ports place ≡ Some port
  pub unlike : is_unlike s.known s.pieces port ≡ true
  pub path : p ≡ named s port.name

-- a port that a scope declares and its header doesn't have, or in a block, by the path of the instance (clause 12.3.3; profile)
abbrev pub HasStrayPort : Scope → Path → Type 0
HasStrayPort s p = (has_stray_port s.ports s.pieces ≡ true) × (p ≡ s.home)

-- a parameter in a block that might be overridden, by the path of the instance (clause 12.4; profile)
abbrev pub HasBlockParameter : Scope → Path → Type 0
HasBlockParameter s p = (has_block_parameter s ≡ true) × (p ≡ s.home)

-- a generate construct of a scope that has the fault, by the scope's path (clause 12.4)
abbrev pub HasConstructFault : Scope → Reason → Path → Type 0
HasConstructFault s r p = (constructs_fault r (environment s) (text_names s) 1 s.pieces ≡ true) × (p ≡ s.path)

-- a fault of a value of a parameter of a generate block in a scope, by the block's path (clause 4.10.2)
pub record HasBlockFault (s : Scope) (w : WidthReason) (p : Path) : Type 0 where
  pub place : ℕ
  pub piece : ℕ
  pub title : PathName
  pub constants : List (List ℕ × Const)
  pub items : List ModuleItem
  pub stands : slice_get (inner_of s) place ≡ Some (generated piece title constants items)
  pub holds : block_fault s constants (pieces_of items) w ≡ true
  pub path : p ≡ named_at s title

-- a net that is declared behind its use in a scope, by the net's path (clause 4.5)
pub record HasLateNet (s : Scope) (p : Path) : Type 0 where
  pub place : ℕ
  pub stands : slice_get (late_nets s) place ≡ Some p

-- a generate block in a scope that has the name of an implicit net there, by the net's path (clauses 4.5 and 12.4.3)
pub record HasBlockOfNet (s : Scope) (p : Path) : Type 0 where
  pub place : ℕ
  pub piece : ℕ
  pub title : PathName
  pub constants : List (List ℕ × Const)
  pub items : List ModuleItem
  pub stands : slice_get (inner_of s) place ≡ Some (generated piece title constants items)
  pub holds : is_implicit s title.name ≡ true
  pub path : p ≡ named s title.name

-- a range of a declaration of a scope that has the fault, by the scope's path
abbrev pub HasRangeFault : Scope → Reason → Path → Type 0
HasRangeFault s r p =
    (list_any (declaration_fault r) (map (declared_by_port s.known) s.ports ++ declared_among s.known s.pieces) ≡ true) × (p ≡ s.path)

-- a scope that passes a limit: 64 levels of instances, by the path of the instance that it is or stands in; or by its own path 16,384 instances beside
-- the top, 65,536 signals with those before it, or a depth that no source has (profile)
abbrev pub PassesLimit : Scope → Path → Type 0
PassesLimit s p =
    ((levels < s.depth) × (p ≡ s.home)) ⊎
    ((((is_instance s.kind ≡ true) × (16384 < s.instances)) ⊎ (65536 < s.base + length (declarations_of s)) ⊎ (deepest < length s.path)) ×
    (p ≡ s.path))

-- a scope whose generate loops have more than 65,536 turns together with those of the scopes before it, by its path (profile)
abbrev pub PassesTurns : Scope → Path → Type 0
PassesTurns s p = (65536 < s.turns + turns_in s) × (p ≡ s.path)

-- ---- faults above scopes

-- two modules of one name, by that name (clause 3.12)
pub record NamesTwice (ms : List Module) (p : Path) : Type 0 where
  pub name : List ℕ
  pub repeated : Repeated (map (λ m. m.name.items) ms) name
  pub path : p ≡ plainly name ∷ []

-- a fault of a parameter of the top module, by its path (clause 12.2)
abbrev pub top_fault : WidthReason → Module → Bool
top_fault w m = own_faults w nowhere (early m) (given_to None m)

-- ---- faults that are told while scopes are opened

-- the condition of such a fault in a scope, with its path
abbrev pub HoldsOpening : List Module → Scope → Reason → Path → Type 0
HoldsOpening ms s NoModule p = HasNoModule ms s p
HoldsOpening ms s Inside p = AtInstance ms s (λ u m. is_inside s m) p
HoldsOpening ms s PortMismatch p = AtInstance ms s is_port_mismatch p ⊎ HasWrongPort s p ⊎ HasStrayPort s p
HoldsOpening ms s ParameterMismatch p = AtInstance ms s (λ u m. is_override_mismatch u.overrides m) p ⊎ HasBlockParameter s p
HoldsOpening ms s DeclaredTwice p = DeclaresTwice s p ⊎ HasUnlikePort s p ⊎ HasLateNet s p ⊎ HasBlockOfNet s p
HoldsOpening ms s DrivenTwice p = ⊥
HoldsOpening ms s Limit p = PassesLimit s p ⊎ PassesTurns s p ⊎ HasRangeFault s Limit p
HoldsOpening ms s (Width w) p =
    AtInstance ms s (parameter_fault w s) p ⊎ HasOverrideFault ms s w p ⊎ HasBlockFault s w p ⊎ HasConstructFault s (Width w) p ⊎
    HasRangeFault s (Width w) p
HoldsOpening ms s Endless p = HasConstructFault s Endless p
HoldsOpening ms s Unnamed p = HasConstructFault s Unnamed p
HoldsOpening ms s Timescales p = ⊥
HoldsOpening ms s (Format f) p = ⊥

-- such a fault in one of these scopes
abbrev pub HoldsOpeningIn : List Module → List Scope → Reason → Path → Type 0
HoldsOpeningIn ms [] r p = ⊥
HoldsOpeningIn ms (s ∷ more) r p = HoldsOpening ms s r p ⊎ HoldsOpeningIn ms more r p

-- the condition of such a fault that is none of a listed scope: there is no such module, a parameter of the top has a fault, or two modules have one name
abbrev pub HoldsOpeningAbove : List Module → List ℕ → Reason → Path → Type 0
HoldsOpeningAbove ms top NoModule p = (module_named ms top ≡ None) × (p ≡ plainly top ∷ [])
HoldsOpeningAbove ms top DeclaredTwice p = NamesTwice ms p
HoldsOpeningAbove ms top (Width w) p = (of_module (top_fault w) (module_named ms top) ≡ true) × (p ≡ plainly top ∷ [])
HoldsOpeningAbove ms top _ p = ⊥

-- the condition of such a fault at a path, in a source with this top
abbrev pub HasOpeningFault : List Module → List ℕ → Reason → Path → Type 0
HasOpeningFault ms top r p = HoldsOpeningAbove ms top r p ⊎ HoldsOpeningIn ms (scopes_of ms top) r p
