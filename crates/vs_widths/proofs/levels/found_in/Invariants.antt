use Rattle.std.proofs.Common.{◌≡◌, drop}
use Rattle.vs_widths.specs.Names.{meaning_of, nested_names}
use Rattle.vs_widths.proofs.levels.found_in.Given as goal

-- the scopes that are left say what all say
abbrev pub invariant-loop-names : goal.invariant-loop-names
invariant-loop-names l = meaning_of (nested_names (drop l.names-index l.scopes)) l.name ≡ meaning_of (nested_names l.scopes) l.name
