use Rattle.std.proofs.Common.{◌≡◌, map, take}
use Rattle.vs_drivers.specs.vs_rules.specs.Certificates.{name_from}
use Rattle.vs_propose.specs.Claimed.{HasTexts, name_at}
use Rattle.vs_propose.proofs.claims.assign_names.Given as goal

abbrev pub invariant-loop-j : goal.invariant-loop-j
invariant-loop-j l = HasTexts l.design → map name_from l.names.items ≡ map (name_at l.design) (take l.j-index l.order)
