use Rattle.vs_syntax.specs.vs_lexer.specs.NameLines.{is_one_line}
use Rattle.vs_elaborate.specs.Timescales.{timescale_of}
use Rattle.vs_elaborate.proofs.GoodScopeLemmas.{design_named}
use Rattle.vs_elaborate.proofs.OneLineLemmas.{named_one_line}
use Rattle.vs_elaborate.proofs.OneLineTextLemmas.{numbered_one_line}
use Rattle.vs_elaborate.proofs.laws.names_of_one_line.Goals as goal

pub returns : goal.returns
returns c = λ s top d h k. named_one_line d (design_named is_one_line numbered_one_line s.modules.items top (timescale_of s) d h k.found)
