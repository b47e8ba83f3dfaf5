use Rattle.std.proofs.Common.{◌≡◌, map, drop}
use Rattle.vs_prep_macros.specs.Directives.{directive_in}
use Rattle.vs_prep_macros.proofs.directive.directive_in.Given as goal

abbrev pub invariant-loop-spelling : goal.invariant-loop-spelling
invariant-loop-spelling l = directive_in (map (λ entry. (entry.0.now, entry.1)) (drop l.spelling-index l.table)) l.name ≡ directive_in (map (λ entry. (entry.0.now, entry.1)) l.table) l.name
