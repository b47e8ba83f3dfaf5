use Rattle.std.proofs.Common.{map}
use Rattle.vs_maps.specs.Reaches.{chart_of}
use Rattle.vs_claims.proofs.MapLemmas.{AreFirst}
use Rattle.vs_claims.proofs.maps.texts.Given as goal

abbrev pub invariant-loop-code : goal.invariant-loop-code
invariant-loop-code l = AreFirst l.codes (map chart_of l.texts.items) l.code-index
