-- What the functions on branches of generate constructs answer.
use Rattle.std.specs.Prelude.{Bool, false}
use Rattle.vs_scopes.specs.declared.faults.Reason.{Reason}
use Rattle.vs_scopes.specs.Generate.{Taken, takes, refused}
use Rattle.vs_scopes.specs.scopes_passes.Sizes.{width_faults}

-- why nothing is chosen
abbrev pub choice_fault : Taken → Reason → Bool
choice_fault (takes x) r = false
choice_fault (refused faults) r = width_faults faults r
