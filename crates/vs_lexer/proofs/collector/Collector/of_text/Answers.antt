use Rattle.std.proofs.Common.{◌≡◌, ℕ, drop, subst, arith}
use Rattle.vs_lexer.specs.Numbers.{digits_vector}
use Rattle.vs_lexer.specs.Collecting.{Collects}
use Rattle.vs_lexer.proofs.collector.Collector.of_text.Goals as goal

pub returns : goal.returns
returns c =
    let done : c.loop-index.index ≡ 0 = omega (arith, c.loop-index-test.false) in
    subst (λ (i : ℕ). Collects c.loop-index.digits (digits_vector c.args.bits (drop i c.args.text.now))) done c.loop-index.invariant
