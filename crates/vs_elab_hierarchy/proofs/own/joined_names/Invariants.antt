use Rattle.std.proofs.Common.{◌≡◌, map, take}
use Rattle.vs_scopes.specs.Ports.{names_where, is_joined}
use Rattle.vs_scopes.specs.scopes_passes.Answers.{borrowed}
use Rattle.vs_scopes.specs.scopes_passes.Parts.{read_port}
use Rattle.vs_elab_hierarchy.proofs.own.joined_names.Given as goal

abbrev pub invariant-loop-port : goal.invariant-loop-port
invariant-loop-port l = borrowed l.names.items ≡ names_where is_joined (map read_port (take l.port-index l.ports))
