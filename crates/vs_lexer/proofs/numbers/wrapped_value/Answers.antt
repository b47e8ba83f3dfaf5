use Rattle.std.proofs.Common.{◌≡◌, ◌+◌, ◌-◌, ◌*◌, ◌%◌, ◌<◌, ℕ, get_or, arith, sym, ap, ◌∙◌}
use Rattle.vs_lexer.proofs.DecimalValues.{value_after-mark, value_after-wrapped, value_after-end}
use Rattle.vs_lexer.proofs.numbers.wrapped_value.Goals as goal
use Rattle.vs_lexer.proofs.numbers.wrapped_value.Goals.{then-byte-ne95, else-byte-ne95}

pub loop-byte-preserved : goal.loop-byte-preserved
loop-byte-preserved c =
    let l = c.loop-byte in
    elim c.if-byte-ne95.branch [
      | then-byte-ne95 w ↦
          let is : c.if-byte-ne95.value ≡ (l.value * 10 % 18446744073709551616 + (get_or c.args.text.now l.byte-index 0 - 48)) % 18446744073709551616 = omega (arith, w.value-is, w.from-digit.ensures, w.saturating_sub.ensures) in
          value_after-wrapped l.value c.args.text.now l.byte-index c.loop-byte-test.true c.if-byte-ne95.value w.if-byte-ne95.true is ∙ l.invariant
      | else-byte-ne95 w ↦
          rw w.value-is (ap (λ (v : ℕ). v % 18446744073709551616) (value_after-mark l.value c.args.text.now l.byte-index c.loop-byte-test.true w.if-byte-ne95.false) ∙ l.invariant)
    ]

pub returns : goal.returns
returns c =
    let l = c.loop-byte in
    let small : l.value < 18446744073709551616 = omega (arith, l.auto.value-fits) in
    let same : l.value % 18446744073709551616 ≡ l.value = omega arith in
    let whole = value_after-end l.value c.args.text.now l.byte-index c.loop-byte-test.false in
    sym same ∙ (rw whole at l.invariant)
