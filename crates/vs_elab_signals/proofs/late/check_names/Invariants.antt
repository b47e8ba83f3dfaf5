use Rattle.std.proofs.Common.{◌≡◌, List, drop}
use Rattle.vs_scopes.specs.Scopes.{Scope}
use Rattle.vs_scopes.specs.scopes_passes.Answers.{borrowed}
use Rattle.vs_scopes.specs.scopes_passes.Names.{read_path}
use Rattle.vs_elab_signals.specs.nets_passes.Nets.{IsAround, HasNetPlaces, late_among}
use Rattle.vs_elab_signals.proofs.late.check_names.Given as goal

abbrev pub invariant-loop-name : goal.invariant-loop-name
invariant-loop-name l = (ss : List Scope) (s : Scope) → IsAround ss l.around s → HasNetPlaces s l.text l.told → read_path l.path ≡ s.path →
    late_among s l.place (borrowed (drop l.name-index l.names)) ≡ late_among s l.place (borrowed l.names)
