-- From a scope to the scopes of the instances and blocks in it.
use Rattle.std.specs.Prelude.{◌≡◌, ℕ, ◌≤◌, ◌⊎◌, Bool, true, false, List, [], ◌∷◌, ◌++◌, Some, None, length, map, slice_get}
use Rattle.std.specs.Option.{option_map}
use Rattle.std.specs.List.{IsDistinct}
use Rattle.std.specs.Str.{bytes_eq}
use Rattle.vs_syntax.specs.declared.tree.Module.{Module}
use Rattle.vs_widths.specs.declared.constants.Const.{Const}
use Rattle.vs_widths.specs.declared.faults.WidthReason.{WidthReason}
use Rattle.vs_widths.specs.declared.faults.WidthFault.{WidthFault}
use Rattle.vs_widths.specs.declared.faults.WidthFault.TheVariants as width
use Rattle.vs_elab_constants.specs.vs_widths.specs.Names.{meaning_of}
use Rattle.vs_scopes.specs.Pieces.{Piece, pieces_of, block_pieces}
use Rattle.vs_elab_signals.specs.vs_scopes.specs.declared.faults.Reason.{Reason}
use Rattle.vs_elab_signals.specs.vs_scopes.specs.declared.faults.Reason.TheVariants.{NoModule, Inside, PortMismatch, ParameterMismatch, DeclaredTwice, Width}
use Rattle.vs_elab_signals.specs.vs_scopes.specs.declared.faults.ElabFault.{ElabFault}
use Rattle.vs_elab_signals.specs.vs_scopes.specs.declared.faults.ElabFault.TheVariants.{Memory}
use Rattle.vs_elab_signals.specs.vs_scopes.specs.declared.faults.ParameterRefusal.{ParameterRefusal}
use Rattle.vs_elab_signals.specs.vs_scopes.specs.declared.faults.ParameterRefusal.TheVariants as refusal
use Rattle.vs_elab_signals.specs.vs_scopes.specs.Printed.{PathName, Path}
use Rattle.vs_elab_signals.specs.vs_scopes.specs.Parameters.{is_override_mismatch}
use Rattle.vs_elab_signals.specs.vs_scopes.specs.Declarations.{Use}
use Rattle.vs_elab_signals.specs.vs_scopes.specs.Nets.{permits_nets}
use Rattle.vs_elab_signals.specs.vs_scopes.specs.Generate.{Inner, instance, generated}
use Rattle.vs_elab_signals.specs.vs_scopes.specs.Generate as g
use Rattle.vs_elab_signals.specs.vs_scopes.specs.Scopes.{Scope, Before, instance_scope, block_scope, block_fault, opened, module_named, named, named_at, is_inside, is_port_mismatch, levels}
use Rattle.vs_elab_signals.specs.vs_scopes.specs.scopes_passes.Answers.{IsFaultAt}
use Rattle.vs_elab_signals.specs.vs_scopes.specs.scopes_passes.Names.{read_title}
use Rattle.vs_elab_signals.specs.vs_scopes.specs.declared.printed.PathName.{PathName as FoundName}
use Rattle.vs_elab_signals.specs.declared.opened.ElabScope.{ElabScope as FoundScope}
use Rattle.vs_elab_signals.specs.declared.opened.Numbering.{Numbering}
use Rattle.vs_elab_signals.specs.Opened.{IsScopeOf}
use Rattle.vs_elab_hierarchy.specs.declared.entering.NamedModule.{NamedModule}
use Rattle.vs_elab_hierarchy.specs.passes.Blocks.{IsTitled}
use Rattle.vs_elab_signals.specs.ScopeFaults.{of_module, parameter_fault, override_fault, NamesTwice}

-- ---- modules

-- the names of modules
abbrev pub module_names : List Module → List (List ℕ)
module_names ms = map (λ (m : Module). m.name.items) ms

-- modules whose names differ, by their names, each with whether undeclared names may be nets in it
pub record Lists (ms : List Module) (names : List (List ℕ × NamedModule)) : Type 0 where
  pub found : (n : List ℕ) → option_map (λ (x : NamedModule). x.«module».now) (meaning_of names n) ≡ module_named ms n
  pub nets : (n : List ℕ) (x : NamedModule) → meaning_of names n ≡ Some x → x.nets ≡ permits_nets ms n
  pub distinct : IsDistinct bytes_eq (module_names ms)

-- why modules were not listed: two have one name
abbrev pub ListsNot : List Module → Reason → Path → Type 0
ListsNot ms DeclaredTwice p = NamesTwice ms p
ListsNot ms _ p = ⊥

-- ---- where a scope is entered

-- what stands before the next scope of a list
abbrev pub before_next : List FoundScope → Numbering → Before
before_next list plan = record {
  scopes = length list;
  signals = length plan.signals.items;
  instances = plan.instances;
  turns = plan.turns;
}

-- the scope at a place stands in no more instances than one may
abbrev pub IsShallow : List FoundScope → ℕ → Type 0
IsShallow list place = (o : FoundScope) → slice_get list place ≡ Some o → o.depth ≤ levels

-- ---- instances

-- an instance without faults
pub record IsSoundUse (ms : List Module) (s : Scope) (u : Use) : Type 0 where
  pub body : Module
  pub found : module_named ms u.of ≡ Some body
  pub outside : is_inside s body ≡ false
  pub fits : is_override_mismatch u.overrides body ≡ false
  pub parameters : (w : WidthReason) → parameter_fault w s u body ≡ false
  pub overrides : (w : WidthReason) → override_fault w s u body ≡ false
  pub ports : is_port_mismatch u body ≡ false

-- the fault of an instance whose parameters have no values
abbrev pub IsParameterFault : Scope → List ℕ → ParameterRefusal → ElabFault → Type 0
IsParameterFault s n refusal.Memory e = e ≡ Memory
IsParameterFault s n refusal.Mismatch e = IsFaultAt ParameterMismatch (named s n) e
IsParameterFault s n (refusal.Outer w) e = IsFaultAt (Width w) s.path e
IsParameterFault s n (refusal.Own w) e = IsFaultAt (Width w) (named s n) e

-- the scope of an instance of this module in the scope at a place, among these, with so much before it
pub record EntersInstance (nets : Bool) (ss : List Scope) (s : Scope) (place : ℕ) (at : Before) (u : Use) (m : Module) (o : FoundScope) : Type 0 where
  pub entered : IsScopeOf (ss ++ instance_scope nets s at u m ∷ []) o (instance_scope nets s at u m)
  pub around : o.around ≡ Some place
  pub blocks : o.blocks ≡ []
  pub fits : is_override_mismatch u.overrides m ≡ false
  pub parameters : (w : WidthReason) → parameter_fault w s u m ≡ false
  pub overrides : (w : WidthReason) → override_fault w s u m ≡ false
  pub ports : is_port_mismatch u m ≡ false

-- why an instance of this module opens no scope
abbrev pub EntersInstanceNot : Scope → Use → Module → Reason → Path → Type 0
EntersInstanceNot s u m PortMismatch p = (is_port_mismatch u m ≡ true) × (p ≡ named s u.name)
EntersInstanceNot s u m ParameterMismatch p = (is_override_mismatch u.overrides m ≡ true) × (p ≡ named s u.name)
EntersInstanceNot s u m (Width w) p =
    ((parameter_fault w s u m ≡ true) × (p ≡ named s u.name)) ⊎ ((override_fault w s u m ≡ true) × (p ≡ s.path))
EntersInstanceNot s u m _ p = ⊥

-- why an instance opens no scope
abbrev pub EntersUseNot : List Module → Scope → Use → Reason → Path → Type 0
EntersUseNot ms s u NoModule p = (module_named ms u.of ≡ None) × (p ≡ named s u.name)
EntersUseNot ms s u Inside p = (of_module (is_inside s) (module_named ms u.of) ≡ true) × (p ≡ named s u.name)
EntersUseNot ms s u PortMismatch p = (of_module (is_port_mismatch u) (module_named ms u.of) ≡ true) × (p ≡ named s u.name)
EntersUseNot ms s u ParameterMismatch p = (of_module (is_override_mismatch u.overrides) (module_named ms u.of) ≡ true) × (p ≡ named s u.name)
EntersUseNot ms s u (Width w) p =
    ((of_module (parameter_fault w s u) (module_named ms u.of) ≡ true) × (p ≡ named s u.name)) ⊎
    ((of_module (override_fault w s u) (module_named ms u.of) ≡ true) × (p ≡ s.path))
EntersUseNot ms s u _ p = ⊥

-- ---- blocks

-- the fault of a block of this name whose parameters have no values
abbrev pub IsBlockRefusal : Scope → PathName → WidthFault → ElabFault → Type 0
IsBlockRefusal s n width.Memory e = e ≡ Memory
IsBlockRefusal s n (width.Refused w) e = IsFaultAt (Width w) (named_at s n) e

-- the scope of a block of this name before a piece of the scope at a place, among these, with so much before it
pub record EntersBlock (piece : ℕ) (ss : List Scope) (s : Scope) (place : ℕ) (at : Before) (n : FoundName) (cs : List (List ℕ × Const)) (ps : List Piece) (o : FoundScope) : Type 0 where
  pub entered : IsScopeOf (ss ++ block_scope piece s at (read_title n) cs ps ∷ []) o (block_scope piece s at (read_title n) cs ps)
  pub around : o.around ≡ Some place
  pub title : o.title ≡ n
  pub blocks : o.blocks ≡ []
  pub parameters : (w : WidthReason) → block_fault s cs ps w ≡ false

-- why a block opens no scope
abbrev pub EntersBlockNot : Scope → PathName → List (List ℕ × Const) → List Piece → Reason → Path → Type 0
EntersBlockNot s n cs ps (Width w) p = (block_fault s cs ps w ≡ true) × (p ≡ named_at s n)
EntersBlockNot s n cs ps _ p = ⊥

-- ---- both

-- what opens a scope, without faults
abbrev pub IsSoundInner : List Module → Scope → Inner → Type 0
IsSoundInner ms s (instance u) = IsSoundUse ms s u
IsSoundInner ms s (generated i n cs xs) = (w : WidthReason) → block_fault s cs (pieces_of xs) w ≡ false
IsSoundInner ms s (g.named x) = (w : WidthReason) → block_fault s [] (block_pieces x) w ≡ false

-- the scope that an instance or a block in the scope at a place opens among these, with so much before it
pub record Enters (ms : List Module) (ss : List Scope) (s : Scope) (place : ℕ) (at : Before) (x : Inner) (o : FoundScope) : Type 0 where
  pub sound : IsSoundInner ms s x
  pub inner : Scope
  pub opens : opened ms s at x ≡ Some inner
  pub entered : IsScopeOf (ss ++ inner ∷ []) o inner
  pub around : o.around ≡ Some place
  pub title : IsTitled x o.title
  pub blocks : o.blocks ≡ []

-- why it opens none: a named block has no parameters
abbrev pub EntersNot : List Module → Scope → Inner → Reason → Path → Type 0
EntersNot ms s (instance u) r p = EntersUseNot ms s u r p
EntersNot ms s (generated i n cs xs) r p = EntersBlockNot s n cs (pieces_of xs) r p
EntersNot ms s (g.named x) r p = ⊥
