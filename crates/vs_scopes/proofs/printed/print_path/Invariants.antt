use Rattle.std.proofs.Common.{◌≡◌, ◌+◌, take}
use Rattle.vs_scopes.specs.Printed.{printed}
use Rattle.vs_scopes.specs.scopes_passes.Names.{read_path}
use Rattle.vs_scopes.proofs.printed.print_path.Given as goal

abbrev pub invariant-loop-title : goal.invariant-loop-title
invariant-loop-title l = l.text.items ≡ printed (read_path (take (l.title-index + 1) l.path))
