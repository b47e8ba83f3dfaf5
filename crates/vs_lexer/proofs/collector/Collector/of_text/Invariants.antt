use Rattle.std.proofs.Common.{drop}
use Rattle.vs_lexer.specs.Numbers.{digits_vector}
use Rattle.vs_lexer.specs.Collecting.{Collects}
use Rattle.vs_lexer.proofs.collector.Collector.of_text.Given as goal

abbrev pub invariant-loop-index : goal.invariant-loop-index
invariant-loop-index l = Collects l.digits (digits_vector l.bits (drop l.index l.text))
