use Rattle.std.proofs.Common.{◌≡◌, map}
use Rattle.vs_elab_statements.specs.vs_widths.specs.Names.{meaning_of}
use Rattle.vs_elab_statements.specs.vs_scopes.specs.Printed.{Path}
use Rattle.vs_elab_statements.specs.vs_scopes.specs.Scopes.{Scope}
use Rattle.vs_elab_statements.specs.Surroundings.{Surroundings}
use Rattle.vs_elab_statements.specs.vs_scopes.specs.scopes_passes.Parts.{read_port, read_end}
use Rattle.vs_elaborate.specs.passes.Filling.{IsFrame, Connects}
use Rattle.vs_elab_statements.specs.Members.{port_drivers}
use Rattle.vs_elaborate.proofs.PortLemmas.{KeptTo}
use Rattle.vs_elaborate.proofs.connecting.drive_ports.Given as goal

abbrev pub invariant-loop-place : goal.invariant-loop-place
invariant-loop-place l = (envs : Path → Surroundings) (s : Scope) → IsFrame l.frame envs s → meaning_of l.outer ≡ s.outer →
    KeptTo read_port read_end (port_drivers (map read_port l.ports) (map read_end l.ends)) l.ports l.ends (Connects s l.fn.assigns.items) (Connects s l.assigns.items) l.place
