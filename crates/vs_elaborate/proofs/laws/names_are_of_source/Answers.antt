use Rattle.vs_elaborate.specs.Timescales.{timescale_of}
use Rattle.vs_elaborate.proofs.GoodScopeLemmas.{design_named}
use Rattle.vs_elaborate.proofs.laws.names_are_of_source.Goals as goal

pub returns : goal.returns
returns c = λ good s top d numbered h k. design_named good numbered s.modules.items top (timescale_of s) d h k.found
