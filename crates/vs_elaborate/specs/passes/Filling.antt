-- What is added to a design, a scope at a time.
use Rattle.std.specs.Prelude.{◌≡◌, ℕ, ◌-◌, ◌++◌, ◌⊎◌, Bool, true, false, List, [], Some, length, map, take, slice_get}
use Rattle.std.specs.List.{list_any, flat_map, AllZip}
use Rattle.vs_design.specs.declared.signal.Signal.{Signal}
use Rattle.vs_design.specs.declared.design.Assign.{Assign}
use Rattle.vs_design.specs.declared.design.Process.{Process}
use Rattle.vs_design.specs.WellFormed.{driven}
use Rattle.vs_elab_statements.specs.vs_scopes.specs.declared.faults.Reason.{Reason}
use Rattle.vs_elab_statements.specs.vs_scopes.specs.declared.faults.Reason.TheVariants.{DrivenTwice}
use Rattle.vs_elab_statements.specs.vs_scopes.specs.declared.faults.ElabFault.{ElabFault}
use Rattle.vs_elab_statements.specs.vs_scopes.specs.declared.faults.ElabFault.TheVariants.{Memory, At}
use Rattle.vs_syntax.specs.declared.tree.Expr.{Expr}
use Rattle.vs_elab_hierarchy.specs.vs_scopes.specs.Pieces.{NamedBlock, Piece, blocks_of, plain}
use Rattle.vs_elab_hierarchy.specs.vs_scopes.specs.Reads.{read_piece}
use Rattle.vs_elab_hierarchy.specs.vs_scopes.specs.declared.scope.ScopePiece.{ScopePiece as FoundPiece}
use Rattle.vs_elab_statements.specs.vs_scopes.specs.Ports.{ModulePort}
use Rattle.vs_elab_statements.specs.vs_scopes.specs.Printed.{Path}
use Rattle.vs_elab_statements.specs.vs_scopes.specs.Scopes.{Scope, environment, is_wrong_end, has_wrong_end}
use Rattle.vs_elab_statements.specs.vs_scopes.specs.scopes_passes.Answers.{IsFaultAt, IsReported}
use Rattle.vs_elab_statements.specs.vs_scopes.specs.scopes_passes.Names.{read_path}
use Rattle.vs_elab_statements.specs.vs_scopes.specs.scopes_passes.Parts.{read_port, read_ends}
use Rattle.vs_elab_statements.specs.vs_elab_signals.specs.declared.opened.ElabScope.{ElabScope as FoundScope}
use Rattle.vs_elaborate.specs.declared.contents.Contents.{Contents}
use Rattle.vs_elab_statements.specs.declared.faults.StatementFault.{StatementFault}
use Rattle.vs_elab_statements.specs.Members.{Assignment, PortDriver, Driver, of_text, Behavior, drivers_of, port_drivers_of}
use Rattle.vs_elab_statements.specs.Processes.{HasBehaviorFault}
use Rattle.vs_elab_statements.specs.Surroundings.{Surroundings}
use Rattle.vs_elab_statements.specs.passes.Views.{IsView, IsSite}
use Rattle.vs_elab_statements.specs.passes.Bodies.{BodyFails}
use Rattle.vs_elab_statements.specs.Blocks.{HaveScopes}
use Rattle.vs_elaborate.specs.declared.frames.Frame.{Frame}
use Rattle.vs_elaborate.specs.Drivers.{driver_fault, port_driver_fault}
use Rattle.vs_elaborate.specs.Faults.{HasFault, HasPortFault}
use Rattle.vs_elaborate.specs.DesignOf.{PartOf, port_part, parts_from, assigns_of, processes_of, IsProcess, IsAssign}
use Rattle.vs_elaborate.specs.Marks.{SharesBit}

-- ---- frames

-- a frame of a scope, with these surroundings in the scope of each path
pub record IsFrame (f : Frame) (envs : Path → Surroundings) (s : Scope) : Type 0 where
  pub path : read_path f.path.items ≡ s.path
  pub view : IsView f.view envs s.path
  pub names : (envs s.path).names ≡ environment s
  pub around : take (length s.path - 1) s.path ≡ s.around

-- a fault of this reason under the path of the scope that has this place in a list
abbrev pub IsFaultIn : (Path → Surroundings) → List FoundScope → ℕ → Reason → ElabFault → Type 0
IsFaultIn envs list place r e = (at : Path) → IsSite list envs place at → IsFaultAt r at e

-- a fault of a process of a scope stands where it is told
abbrev pub RunFails : (Path → Surroundings) → Frame → Scope → Behavior → StatementFault → ElabFault → Type 0
RunFails envs f s b fault e = BodyFails f.view.list.now envs s.path b fault → IsReported (λ r at. HasBehaviorFault envs r at s.path b) e

-- ---- parts of a scope

-- parts that were added behind a start, one for each that is done: those are sound, and each is what its own means
pub record Adds {A B P : Type 0} (Sound : List A → Type 0) (R : P → PartOf B → Type 0) (parts : List A → List (PartOf B)) (first : ℕ) (all start : List P) (done : List A) : Type 0 where
  pub begun : length start ≡ first
  pub sound : Sound done
  pub added : List P
  pub grown : all ≡ start ++ added
  pub means : AllZip R added (parts done)

-- none of these has a fault
abbrev pub AreSound : {A : Type 0} → (Reason → A → Bool) → List A → Type 0
AreSound fault xs = (r : Reason) → list_any (fault r) xs ≡ false

-- why parts weren't added: one has a fault
abbrev pub AddsNot : {A : Type 0} → (Reason → A → Bool) → Path → List A → Reason → Path → Type 0
AddsNot fault at xs r p = (list_any (fault r) xs ≡ true) × (p ≡ at)

abbrev pub port_faults : Scope → Reason → PortDriver → Bool
port_faults s r = port_driver_fault r (environment s) s.outer

abbrev pub text_faults : Scope → Reason → Assignment → Bool
text_faults s r = driver_fault r (environment s)

-- continuous assignments of the ports of a scope that were added, from a start on
abbrev pub Connects : Scope → List Assign → List Assign → List PortDriver → Type 0
Connects s assigns start = Adds (AreSound (port_faults s)) IsAssign (map (port_part s)) (length start) assigns start

-- why they weren't: one has a fault
abbrev pub ConnectsNot : Scope → List Assign → List PortDriver → Reason → Path → Type 0
ConnectsNot s start = AddsNot (port_faults s) s.around

-- the continuous assignments of a text, as parts
abbrev pub text_parts : Scope → List Assignment → List (PartOf Driver)
text_parts s xs = parts_from 97 s 0 (map of_text xs)

-- continuous assignments of the text of a scope that were added, from the first one on
abbrev pub Drives : Scope → List Assign → List Assign → List Assignment → Type 0
Drives s = Adds (AreSound (text_faults s)) IsAssign (text_parts s) 0

-- why they weren't: one has a fault
abbrev pub DrivesNot : Scope → List Assign → List Assignment → Reason → Path → Type 0
DrivesNot s start = AddsNot (text_faults s) s.path

-- one of these processes of a scope has the fault, by the path of the innermost scope where it stands
pub record HasRunFault (envs : Path → Surroundings) (s : Scope) (xs : List Behavior) (r : Reason) (p : Path) : Type 0 where
  pub place : ℕ
  pub behavior : Behavior
  pub stands : slice_get xs place ≡ Some behavior
  pub fault : HasBehaviorFault envs r p s.path behavior

-- none of them has one
abbrev pub RunSoundly : (Path → Surroundings) → Scope → List Behavior → Type 0
RunSoundly envs s xs = (r : Reason) (p : Path) → HasRunFault envs s xs r p → ⊥

-- processes of a scope that were added, from a start on
pub record Runs (envs : Path → Surroundings) (s : Scope) (first : ℕ) (contents start : Contents) (done : List Behavior) : Type 0 where
  pub adds : Adds (RunSoundly envs s) (IsProcess envs) (parts_from 112 s 0) first contents.processes.items start.processes.items done
  pub assigns : contents.assigns.items ≡ start.assigns.items

-- why they weren't: one has a fault
abbrev pub RunsNot : (Path → Surroundings) → Scope → Contents → List Behavior → Reason → Path → Type 0
RunsNot envs s start = HasRunFault envs s

-- ---- scopes

-- the ports, ends and pieces of a scope
pub record HasMembers (o : FoundScope) (s : Scope) : Type 0 where
  pub ports : map read_port o.ports.items ≡ s.ports
  pub ends : read_ends o.ends.items ≡ s.ends
  pub pieces : map read_piece o.pieces.items ≡ s.pieces

-- a fault of the continuous assignments and the processes of a scope
abbrev pub FillsNot : (Path → Surroundings) → Scope → Reason → Path → Type 0
FillsNot envs s r p = HasPortFault s r p ⊎ HasFault envs s r p

-- the continuous assignments of a scope that were added: those of its ports, and those of its text
pub record DrivesScope (s : Scope) (old new : Contents) : Type 0 where
  pub ports : List Assign
  pub text : List Assign
  pub ports_added : Connects s ports [] (port_drivers_of s)
  pub text_added : Drives s text [] (drivers_of s)
  pub assigns : new.assigns.items ≡ old.assigns.items ++ (ports ++ text)
  pub processes : new.processes ≡ old.processes

-- the continuous assignments and processes of a scope that were added: they have no faults
pub record FillsScope (envs : Path → Surroundings) (s : Scope) (old new : Contents) : Type 0 where
  pub sound : (r : Reason) (p : Path) → FillsNot envs s r p → ⊥
  pub assigns_added : List Assign
  pub assigns : new.assigns.items ≡ old.assigns.items ++ assigns_added
  pub drivers_mean : AllZip IsAssign assigns_added (assigns_of s)
  pub processes_added : List Process
  pub processes : new.processes.items ≡ old.processes.items ++ processes_added
  pub behaviors_mean : AllZip (IsProcess envs) processes_added (processes_of s)

-- the continuous assignments and processes of scopes: they have no faults
pub record Fills (envs : Path → Surroundings) (more : List Scope) (contents : Contents) : Type 0 where
  pub sound : (k : ℕ) (s : Scope) → slice_get more k ≡ Some s → (r : Reason) (p : Path) → FillsNot envs s r p → ⊥
  pub drivers : AllZip IsAssign contents.assigns.items (flat_map assigns_of more)
  pub behaviors : AllZip (IsProcess envs) contents.processes.items (flat_map processes_of more)

-- a fault of one of these scopes
pub record FillsOneNot (envs : Path → Surroundings) (more : List Scope) (r : Reason) (p : Path) : Type 0 where
  pub place : ℕ
  pub scope : Scope
  pub stands : slice_get more place ≡ Some scope
  pub fault : FillsNot envs scope r p

-- an output is connected to a left side
abbrev pub IsLeftEnd : ModulePort → Expr → Type 0
IsLeftEnd p e = is_wrong_end p (Some e) ≡ false

-- the outputs of the scopes of a list are connected to what can be the left side of an assignment
abbrev pub AreLefts : FoundScope → Type 0
AreLefts o = has_wrong_end (map read_port o.ports.items) (read_ends o.ends.items) ≡ false

-- ---- named blocks

-- the outermost named blocks of the process that a piece is, where it is one (clause 9.8.3)
abbrev pub process_blocks : Piece → List NamedBlock
process_blocks (plain x) = blocks_of x
process_blocks _ = []

-- the named blocks of the processes among these pieces have their scopes in the one at a place
abbrev pub HaveBlockScopes : List FoundScope → ℕ → List FoundPiece → Type 0
HaveBlockScopes list place ps = (k : ℕ) (x : FoundPiece) → slice_get ps k ≡ Some x → HaveScopes list place (process_blocks (read_piece x))

-- ---- bits of nets

-- a signal of which continuous assignments drive a bit twice, by the path that the signal shows
pub record IsDrivenTwice (signals : List Signal) (assigns : List Assign) (bytes : List ℕ) : Type 0 where
  pub number : ℕ
  pub shares : SharesBit signals (driven assigns) number
  pub signal : Signal
  pub stands : slice_get signals number ≡ Some signal
  pub path : bytes ≡ signal.path.items

-- why bits aren't driven once: a net is driven twice
abbrev pub DrivenTwiceOnly : List Signal → List Assign → ElabFault → Type 0
DrivenTwiceOnly signals assigns Memory = Unit {0}
DrivenTwiceOnly signals assigns (At DrivenTwice bytes) = IsDrivenTwice signals assigns bytes.items
DrivenTwiceOnly signals assigns (At _ bytes) = ⊥
