-- The design that a source and a top define.
use Rattle.std.specs.Prelude.{◌≡◌, ℕ, suc, true, List, [], ◌∷◌, ◌++◌, map}
use Rattle.std.specs.List.{flat_map, AllZip}
use Rattle.vs_syntax.specs.declared.tree.Source.{Source}
use Rattle.vs_design.specs.declared.timescale.Timescale.{Timescale}
use Rattle.vs_design.specs.declared.design.Process.{Process}
use Rattle.vs_design.specs.declared.design.Assign.{Assign}
use Rattle.vs_design.specs.Parts.{Parts}
use Rattle.vs_design.specs.WellFormed.{numbers, counts_from}
use Rattle.vs_elab_statements.specs.vs_scopes.specs.declared.faults.Reason.{Reason}
use Rattle.vs_elab_statements.specs.vs_scopes.specs.Printed.{Path, own_name, port_assign_name, part_name}
use Rattle.vs_elab_statements.specs.vs_scopes.specs.Scopes.{Scope, environment, scopes_of}
use Rattle.vs_elab_statements.specs.vs_elab_signals.specs.Outlines.{declared, signals_of, Line, outline_of, IsEntry}
use Rattle.vs_elab_statements.specs.Members.{PortDriver, port_of, Driver, of_port, of_text, Behavior, drivers_of, port_drivers_of, behaviors_of}
use Rattle.vs_elab_statements.specs.Surroundings.{Surroundings, surroundings_at}
use Rattle.vs_elaborate.specs.Timescales.{timescale_of, ratio_of}
use Rattle.vs_elaborate.specs.Drivers.{IsDriver}
use Rattle.vs_elab_statements.specs.Processes.{IsBody, kind_of}
use Rattle.vs_elaborate.specs.Faults.{HoldsFault}

-- a process or a continuous assignment of a source, with its scope and its name there
pub record PartOf (A : Type 0) : Type 0 where
  pub scope : Scope
  pub name : List ℕ
  pub part : A

-- parts of a scope, with names that are numbered from a number on
abbrev pub parts_from : {A : Type 0} → ℕ → Scope → ℕ → List A → List (PartOf A)
parts_from letter s k [] = []
parts_from letter s k (x ∷ xs) = record { scope = s; name = own_name letter k; part = x } ∷ parts_from letter s (suc k) xs

-- the processes of a scope, in text order: they have the letter `p` (profile)
abbrev pub processes_of : Scope → List (PartOf Behavior)
processes_of s = parts_from 112 s 0 (behaviors_of s)

-- the continuous assignments of the ports of a scope, in port order: each is called after its port (profile)
abbrev pub port_part : Scope → PortDriver → PartOf Driver
port_part s d = record { scope = s; name = port_assign_name (port_of d); part = of_port d }

-- the continuous assignments of a scope: those of its ports, and those of its text in its order, which have the letter `a` (clause 12.3.10; profile)
abbrev pub assigns_of : Scope → List (PartOf Driver)
assigns_of s = map (port_part s) (port_drivers_of s) ++ parts_from 97 s 0 (map of_text (drivers_of s))

-- the process of a design that one of a source is, with these surroundings in the scope of each path; its statements are numbered from 0 on, in text
-- order
pub record IsProcess (envs : Path → Surroundings) (p : Process) (q : PartOf Behavior) : Type 0 where
  pub name : p.name.items ≡ part_name q.scope.path q.name
  pub kind : p.kind ≡ kind_of q.part
  pub body : IsBody envs q.scope.path q.part p.body
  pub numbered : counts_from 0 (numbers p.body) ≡ true

-- the continuous assignment of a design that one of a source is
pub record IsAssign (a : Assign) (q : PartOf Driver) : Type 0 where
  pub name : a.name.items ≡ part_name q.scope.path q.name
  pub sides : IsDriver (environment q.scope) q.scope.outer q.part a.target a.source

-- The design has this time scale, the signals, continuous assignments and processes of these scopes in design order, and this outline.
pub record Represents (d : Parts) (scale : Timescale) (ss : List Scope) (lines : List Line) : Type 0 where
  pub timescale : d.timescale ≡ scale
  pub signals : map declared d.signals ≡ flat_map signals_of ss
  pub assigns : AllZip IsAssign d.assigns (flat_map assigns_of ss)
  pub processes : AllZip (IsProcess (surroundings_at (ratio_of scale) ss)) d.processes (flat_map processes_of ss)
  pub outline : AllZip IsEntry d.outline lines

-- The design of a source and a top: there is one exactly where no fault stands.
pub record DesignOf (source : Source) (top : List ℕ) (d : Parts) : Type 0 where
  pub none : (r : Reason) (p : Path) → HoldsFault source top r p → ⊥
  pub found : Represents d (timescale_of source) (scopes_of source.modules.items top) (outline_of source.modules.items top)
