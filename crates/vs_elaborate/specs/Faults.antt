-- The faults of a source with a top.
use Rattle.std.specs.Prelude.{◌≡◌, ℕ, ◌<◌, Bool, true, false, ◌&&◌, ◌==◌, List, [], ◌∷◌, ◌++◌, Some, None, ◌⊎◌, map, slice_get}
use Rattle.std.specs.List.{list_any, flat_map}
use Rattle.vs_syntax.specs.declared.tree.Module.{Module}
use Rattle.vs_syntax.specs.declared.tree.Source.{Source}
use Rattle.vs_design.specs.Kinds.{is_variable}
use Rattle.vs_design.specs.WellFormed.{have_common, bits_or_all}
use Rattle.vs_design.specs.declared.range.BitRange.{BitRange}
use Rattle.vs_elab_statements.specs.vs_scopes.specs.vs_widths.specs.Findings.{Finding, Has, Lacks}
use Rattle.vs_elab_statements.specs.vs_scopes.specs.vs_widths.specs.Selects.{Named, named_range}
use Rattle.vs_elab_statements.specs.vs_widths.specs.declared.kinds.AssignmentKind.TheVariants.{Continuous}
use Rattle.vs_elab_statements.specs.vs_widths.specs.Lefts.{Aimed}
use Rattle.vs_elab_statements.specs.vs_scopes.specs.declared.faults.Reason.{Reason}
use Rattle.vs_elab_statements.specs.vs_scopes.specs.declared.faults.Reason.TheVariants.{NoModule, Inside, PortMismatch, ParameterMismatch, DeclaredTwice, DrivenTwice, Limit, Width, Endless, Unnamed, Timescales, Format}
use Rattle.vs_elab_statements.specs.vs_scopes.specs.declared.faults.ElabFault.{ElabFault}
use Rattle.vs_elab_statements.specs.vs_scopes.specs.declared.faults.ElabFault.TheVariants.{Memory, At}
use Rattle.vs_elab_statements.specs.vs_scopes.specs.Printed.{plainly, Path, printed}
use Rattle.vs_elab_statements.specs.vs_scopes.specs.Parameters.{is_override_mismatch}
use Rattle.vs_elab_statements.specs.vs_scopes.specs.Declarations.{DeclaredName}
use Rattle.vs_elab_statements.specs.vs_scopes.specs.Scopes.{Scope, module_named, scopes_of, declarations_of, environment, signal_paths, is_inside, is_port_mismatch}
use Rattle.vs_elab_statements.specs.vs_elab_signals.specs.ScopeFaults.{of_module, AtInstance, HasNoModule, parameter_fault, HasOverrideFault, DeclaresTwice, HasWrongPort, HasUnlikePort, HasStrayPort, HasBlockParameter, HasConstructFault, HasBlockFault, HasLateNet, HasBlockOfNet, HasRangeFault, PassesLimit, PassesTurns, NamesTwice, top_fault}
use Rattle.vs_elab_statements.specs.Statements.{assigned_to}
use Rattle.vs_elab_statements.specs.Surroundings.{Surroundings, surroundings_at}
use Rattle.vs_elab_statements.specs.Members.{Behavior, Driver, of_port, of_text, drivers_of, port_drivers_of, behaviors_of}
use Rattle.vs_elaborate.specs.Timescales.{timescale_of, has_other_timescale, ratio_of}
use Rattle.vs_elaborate.specs.Drivers.{port_target, driver_fault, port_driver_fault}
use Rattle.vs_elab_statements.specs.Processes.{HasBehaviorFault}

-- a process of a scope that has the fault, with these surroundings in the scope of each path, by the path of the innermost scope where it stands
pub record HasProcessFault (envs : Path → Surroundings) (s : Scope) (r : Reason) (p : Path) : Type 0 where
  pub place : ℕ
  pub behavior : Behavior
  pub stands : slice_get (behaviors_of s) place ≡ Some behavior
  pub fault : HasBehaviorFault envs r p s.path behavior

-- a continuous assignment of the text of a scope that has the fault, by the scope's path
abbrev pub HasDriverFault : Scope → Reason → Path → Type 0
HasDriverFault s r p = (list_any (driver_fault r (environment s)) (drivers_of s) ≡ true) × (p ≡ s.path)

-- a process or a continuous assignment of the text of a scope that has the fault
abbrev pub HasFault : (Path → Surroundings) → Scope → Reason → Path → Type 0
HasFault envs s r p = HasProcessFault envs s r p ⊎ HasDriverFault s r p

-- a continuous assignment of a port of a scope that has the fault, by the path of the scope around (clause 12.3.10)
abbrev pub HasPortFault : Scope → Reason → Path → Type 0
HasPortFault s r p = (list_any (port_driver_fault r (environment s) s.outer) (port_drivers_of s) ≡ true) × (p ≡ s.around)

-- the condition of a fault in a scope, with these surroundings in the scope of each path, with its path
abbrev pub Holds : List Module → (Path → Surroundings) → Scope → Reason → Path → Type 0
Holds ms envs s NoModule p = HasNoModule ms s p
Holds ms envs s Inside p = AtInstance ms s (λ u m. is_inside s m) p
Holds ms envs s PortMismatch p = AtInstance ms s is_port_mismatch p ⊎ HasWrongPort s p ⊎ HasStrayPort s p
Holds ms envs s ParameterMismatch p = AtInstance ms s (λ u m. is_override_mismatch u.overrides m) p ⊎ HasBlockParameter s p
Holds ms envs s DeclaredTwice p = DeclaresTwice s p ⊎ HasUnlikePort s p ⊎ HasLateNet s p ⊎ HasBlockOfNet s p ⊎ HasFault envs s DeclaredTwice p
Holds ms envs s DrivenTwice p = ⊥
Holds ms envs s Limit p = PassesLimit s p ⊎ PassesTurns s p ⊎ HasRangeFault s Limit p ⊎ HasFault envs s Limit p
Holds ms envs s (Width w) p =
    AtInstance ms s (parameter_fault w s) p ⊎ HasOverrideFault ms s w p ⊎ HasBlockFault s w p ⊎ HasConstructFault s (Width w) p ⊎
    HasRangeFault s (Width w) p ⊎ HasPortFault s (Width w) p ⊎ HasFault envs s (Width w) p
Holds ms envs s Endless p = HasConstructFault s Endless p
Holds ms envs s Unnamed p = HasConstructFault s Unnamed p
Holds ms envs s Timescales p = ⊥
Holds ms envs s (Format f) p = HasFault envs s (Format f) p

-- a fault in one of these scopes
abbrev pub HoldsIn : List Module → (Path → Surroundings) → List Scope → Reason → Path → Type 0
HoldsIn ms envs [] r p = ⊥
HoldsIn ms envs (s ∷ more) r p = Holds ms envs s r p ⊎ HoldsIn ms envs more r p

-- ---- faults above scopes

-- what the target of a continuous assignment of a scope means (clause 6.1)
abbrev pub aimed_at : Scope → Driver → Aimed
aimed_at s (of_port d) = port_target (environment s) s.outer d
aimed_at s (of_text a) = assigned_to Continuous (environment s) a.target

-- the continuous assignments of a scope: those of its ports, and those of its text (clauses 6.1 and 12.3.10)
abbrev pub all_drivers_of : Scope → List Driver
all_drivers_of s = map of_port (port_drivers_of s) ++ map of_text (drivers_of s)

-- the ranges of these places, where a target has a size; one that has a fault drives nothing (clause 6.1; profile)
abbrev pub ranges_found : Finding → List Named → List BitRange
ranges_found (Has width signed) places = map named_range places
ranges_found (Lacks faults) places = []

-- the ranges that a target drives
abbrev pub ranges_aimed : Aimed → List BitRange
ranges_aimed a = ranges_found a.finding a.places

-- the ranges that the continuous assignments of a scope drive, in their order
abbrev pub ranges_driven : Scope → List BitRange
ranges_driven s = flat_map (λ d. ranges_aimed (aimed_at s d)) (all_drivers_of s)

-- what two ranges have in common where they are of a net: bits of it by its size (clause 6.1)
abbrev pub share_bits : ℕ → BitRange → BitRange → Bool
share_bits size r q = (r.signal == q.signal) && have_common size (bits_or_all size r.bits) (bits_or_all size q.bits)

-- a net of which two parts of continuous assignments drive one bit, by its path; bits out of its range don't count (clause 6.1; profile)
pub record DrivesTwice (ss : List Scope) (p : Path) : Type 0 where
  pub first : ℕ
  pub second : ℕ
  pub before : first < second
  pub one : BitRange
  pub other : BitRange
  pub one_stands : slice_get (flat_map ranges_driven ss) first ≡ Some one
  pub other_stands : slice_get (flat_map ranges_driven ss) second ≡ Some other
  pub net : DeclaredName
  pub declared : slice_get (flat_map declarations_of ss) one.signal ≡ Some net
  pub is_net : is_variable net.kind ≡ false
  pub shared : share_bits net.size.shape.width one other ≡ true
  pub path : slice_get (signal_paths ss) one.signal ≡ Some p

-- the condition of a fault that is none of a listed scope: there is no such module, a parameter of the top has a fault, two modules have one name,
-- a net is driven twice, or two directives give different time scales
abbrev pub HoldsAbove : Source → List ℕ → Reason → Path → Type 0
HoldsAbove source top NoModule p = (module_named source.modules.items top ≡ None) × (p ≡ plainly top ∷ [])
HoldsAbove source top DeclaredTwice p = NamesTwice source.modules.items p
HoldsAbove source top DrivenTwice p = DrivesTwice (scopes_of source.modules.items top) p
HoldsAbove source top (Width w) p = (of_module (top_fault w) (module_named source.modules.items top) ≡ true) × (p ≡ plainly top ∷ [])
HoldsAbove source top Timescales p = (has_other_timescale source ≡ true) × (p ≡ plainly top ∷ [])
HoldsAbove source top _ p = ⊥

-- what surrounds statements in the scope of a path of a source with this top (clauses 12.7 and 19.8)
abbrev pub surroundings_of : Source → List ℕ → Path → Surroundings
surroundings_of source top = surroundings_at (ratio_of (timescale_of source)) (scopes_of source.modules.items top)

-- the condition of a fault at a path, in a source with this top
abbrev pub HoldsFault : Source → List ℕ → Reason → Path → Type 0
HoldsFault source top r p =
    HoldsAbove source top r p ⊎ HoldsIn source.modules.items (surroundings_of source top) (scopes_of source.modules.items top) r p

-- a fault that stands at some path, and has that path as it is printed
pub record HoldsFaultAt (source : Source) (top : List ℕ) (r : Reason) (bytes : List ℕ) : Type 0 where
  pub path : Path
  pub text : bytes ≡ printed path
  pub stands : HoldsFault source top r path

-- what a refusal says
abbrev pub Faults : Source → List ℕ → ElabFault → Type 0
Faults source top Memory = Unit {0}
Faults source top (At r p) = HoldsFaultAt source top r p.items
