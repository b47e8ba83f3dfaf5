use Rattle.std.proofs.Common.{◌≡◌, ◌%◌, ◌∙◌}
use Rattle.vs_logic4.specs.Vectors.{digit_of_bit}
use Rattle.vs_lexer.proofs.CollectedDigits.{collects_number, even_digit, odd_digit}
use Rattle.vs_lexer.proofs.collector.Collector.+push_number.Goals as goal
use Rattle.vs_lexer.proofs.collector.Collector.+push_number.Goals.{then-number-eq0, else-number-eq0}

pub returns : goal.returns
returns t c = λ ds was.
    let bit : c.if-number-eq0.digit ≡ digit_of_bit (c.args.number % 2) = elim c.if-number-eq0.branch [ then-number-eq0 w ↦ w.digit-is ∙ even_digit _ w.if-number-eq0.true | else-number-eq0 w ↦ w.digit-is ∙ odd_digit _ w.if-number-eq0.false ] in
    collects_number _ ds _ _ _ c.if-bits-eq0.false bit (c.push_number.ensures _ (c.push.ensures ds was))
