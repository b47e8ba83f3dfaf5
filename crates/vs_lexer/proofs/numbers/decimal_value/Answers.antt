use Rattle.std.proofs.Common.{◌≡◌, ◌+◌, ◌-◌, ◌*◌, ◌<◌, get_or, arith, ◌∙◌}
use Rattle.vs_lexer.proofs.DecimalValues.{value_after-mark, value_after-digit, value_after-past}
use Rattle.vs_lexer.proofs.numbers.decimal_value.Goals as goal
use Rattle.vs_lexer.proofs.numbers.decimal_value.Goals.{then-byte-ne95+else-value-from, else-byte-ne95}

pub returns-then-value-from : goal.returns-then-value-from
returns-then-value-from c =
    let l = c.loop-byte in
    let is : l.value * 10 + c.from.result ≡ l.value * 10 + (get_or c.args.text.now l.byte-index 0 - 48) = omega (arith, c.from.ensures, c.saturating_sub.ensures) in
    let past : 4294967295 < l.value * 10 + c.from.result = omega (arith, c.from-then-byte-ne95.ensures, c.if-value-from.true) in
    value_after-past l.value c.args.text.now l.byte-index c.loop-byte-test.true (l.value * 10 + c.from.result) c.if-byte-ne95.true is past l.invariant.value

pub loop-byte-preserved : goal.loop-byte-preserved
loop-byte-preserved c =
    let l = c.loop-byte in
    elim c.if-byte-ne95.branch [
      | then-byte-ne95+else-value-from w ↦
          let is : c.if-byte-ne95.value ≡ l.value * 10 + (get_or c.args.text.now l.byte-index 0 - 48) = omega (arith, w.value-is, w.from.ensures, w.saturating_sub.ensures) in
          record {
            small = omega (arith, w.value-is, w.from-then-byte-ne95.ensures, w.if-value-from.false);
            value = value_after-digit l.value c.args.text.now l.byte-index c.loop-byte-test.true c.if-byte-ne95.value w.if-byte-ne95.true is ∙ l.invariant.value;
          }
      | else-byte-ne95 w ↦
          record {
            small = omega (arith, w.value-is, l.invariant.small);
            value = rw w.value-is (value_after-mark l.value c.args.text.now l.byte-index c.loop-byte-test.true w.if-byte-ne95.false ∙ l.invariant.value);
          }
    ]
