use Rattle.std.proofs.Common.{◌≡◌, ◌<◌, ◌^◌, drop}
use Rattle.vs_lexer.specs.Numbers.{value_after}
use Rattle.vs_lexer.proofs.numbers.decimal_value.Given as goal

abbrev pub invariant-loop-byte : goal.invariant-loop-byte
invariant-loop-byte l = record { small : l.value < 2 ^ 32; value : value_after l.value (drop l.byte-index l.text) ≡ value_after 0 l.text }
