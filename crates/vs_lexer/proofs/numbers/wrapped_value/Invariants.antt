use Rattle.std.proofs.Common.{◌≡◌, ◌%◌, ◌^◌, drop}
use Rattle.vs_lexer.specs.Numbers.{value_after}
use Rattle.vs_lexer.proofs.numbers.wrapped_value.Given as goal

abbrev pub invariant-loop-byte : goal.invariant-loop-byte
invariant-loop-byte l = value_after l.value (drop l.byte-index l.text) % 2 ^ 64 ≡ value_after 0 l.text % 2 ^ 64
