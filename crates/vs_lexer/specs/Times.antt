-- Times of `timescale` (IEEE 1364-2005, clause 19.8).
use Rattle.std.specs.Prelude.{ℕ, ◌+◌}
use Rattle.vs_lexer.specs.declared.token.TextMagnitude.{TextMagnitude}
use Rattle.vs_lexer.specs.declared.token.TextMagnitude.TheVariants as m
use Rattle.vs_lexer.specs.declared.token.Time.{Time}
use Rattle.vs_lexer.specs.declared.token.TextUnit.{TextUnit}
use Rattle.vs_lexer.specs.declared.token.TextUnit.TheVariants as t

-- the power of ten of a time in femtoseconds
abbrev pub unit_exponent : TextUnit → ℕ
unit_exponent t.Seconds = 15
unit_exponent t.Milliseconds = 12
unit_exponent t.Microseconds = 9
unit_exponent t.Nanoseconds = 6
unit_exponent t.Picoseconds = 3
unit_exponent t.Femtoseconds = 0

abbrev pub number_exponent : TextMagnitude → ℕ
number_exponent m.One = 0
number_exponent m.Ten = 1
number_exponent m.Hundred = 2

abbrev pub exponent : Time → ℕ
exponent time = unit_exponent time.unit + number_exponent time.number
