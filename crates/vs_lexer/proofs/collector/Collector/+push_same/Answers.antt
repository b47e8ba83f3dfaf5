use Rattle.vs_lexer.proofs.CollectedDigits.{collects_same}
use Rattle.vs_lexer.proofs.collector.Collector.+push_same.Goals as goal

pub returns : goal.returns
returns t c = λ ds was. collects_same _ ds _ _ c.if-times-eq0.false (c.push_same.ensures _ (c.push.ensures ds was))
