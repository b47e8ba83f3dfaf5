use Rattle.std.proofs.Common.{◌≡◌, ◌++◌, drop}
use Rattle.std.specs.List.{flat_map}
use Rattle.vs_scopes.specs.Printed.{escaped_byte}
use Rattle.vs_scopes.proofs.printed.push_escaped.Given as goal

abbrev pub invariant-loop-c : goal.invariant-loop-c
invariant-loop-c l = l.text.items ++ flat_map escaped_byte (drop l.c-index l.name) ≡ l.fn.text.items ++ flat_map escaped_byte l.name
