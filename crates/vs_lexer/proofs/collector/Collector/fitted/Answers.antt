use Rattle.std.proofs.Common.{ap, ◌∙◌}
use Rattle.vs_lexer.specs.Numbers.{filling}
use Rattle.vs_lexer.proofs.CollectedDigits.{fitted_is}
use Rattle.vs_lexer.proofs.collector.Collector.fitted.Goals as goal

pub returns : goal.returns
returns c = λ ds was. c.from_digits.ensures ∙ fitted_is _ ds _ _ c.requires.most (c.filling.ensures ∙ ap filling was.last) (c.push_same-filled.ensures ds was)
