-- Time scales of sources.
use Rattle.std.specs.Prelude.{ℕ, ◌+◌, ◌-◌, ◌^◌, ◌==◌, Bool, ◌&&◌, not, List, [], ◌∷◌, ◌++◌}
use Rattle.std.specs.List.{list_any, flat_map}
use Rattle.vs_syntax.specs.vs_lexer.specs.declared.token.Directive.{Directive}
use Rattle.vs_syntax.specs.vs_lexer.specs.declared.token.Directive.TheVariants as g
use Rattle.vs_syntax.specs.vs_lexer.specs.declared.token.Time.{Time}
use Rattle.vs_syntax.specs.vs_lexer.specs.declared.token.TextMagnitude.{TextMagnitude}
use Rattle.vs_syntax.specs.vs_lexer.specs.declared.token.TextMagnitude.TheVariants as n
use Rattle.vs_syntax.specs.vs_lexer.specs.declared.token.TextUnit.{TextUnit}
use Rattle.vs_syntax.specs.vs_lexer.specs.declared.token.TextUnit.TheVariants as u
use Rattle.vs_syntax.specs.declared.tree.Module.{Module}
use Rattle.vs_syntax.specs.declared.tree.Source.{Source}
use Rattle.vs_design.specs.declared.timescale.Magnitude.{Magnitude}
use Rattle.vs_design.specs.declared.timescale.Magnitude.TheVariants.{One, Ten, Hundred}
use Rattle.vs_design.specs.declared.timescale.TimeUnit.{TimeUnit}
use Rattle.vs_design.specs.declared.timescale.TimeUnit.TheVariants.{Second, Millisecond, Microsecond, Nanosecond, Picosecond, Femtosecond}
use Rattle.vs_design.specs.declared.timescale.TimeSpan.{TimeSpan}
use Rattle.vs_design.specs.declared.timescale.Timescale.{Timescale}
use Rattle.vs_design.specs.declared.timescale.TheConstants.{DEFAULT_TIMESCALE}

-- ---- times

-- the number of a time of a text, in a design
abbrev pub magnitude_of : TextMagnitude → Magnitude
magnitude_of n.One = One
magnitude_of n.Ten = Ten
magnitude_of n.Hundred = Hundred

-- the unit of a time of a text, in a design
abbrev pub unit_of : TextUnit → TimeUnit
unit_of u.Seconds = Second
unit_of u.Milliseconds = Millisecond
unit_of u.Microseconds = Microsecond
unit_of u.Nanoseconds = Nanosecond
unit_of u.Picoseconds = Picosecond
unit_of u.Femtoseconds = Femtosecond

-- a time of a text, in a design (clause 19.8)
abbrev pub span_of : Time → TimeSpan
span_of t = record { magnitude = magnitude_of t.number; unit = unit_of t.unit }

-- the power of ten that a number is
abbrev pub magnitude_exponent : Magnitude → ℕ
magnitude_exponent One = 0
magnitude_exponent Ten = 1
magnitude_exponent Hundred = 2

-- the power of ten that a unit is in femtoseconds
abbrev pub unit_exponent : TimeUnit → ℕ
unit_exponent Second = 15
unit_exponent Millisecond = 12
unit_exponent Microsecond = 9
unit_exponent Nanosecond = 6
unit_exponent Picosecond = 3
unit_exponent Femtosecond = 0

-- the power of ten that a span of time is in femtoseconds
abbrev pub span_exponent : TimeSpan → ℕ
span_exponent t = unit_exponent t.unit + magnitude_exponent t.magnitude

-- how many ticks a unit of time is: a tick is one precision, which no text has coarser than the unit (clause 19.8)
abbrev pub ratio_of : Timescale → ℕ
ratio_of s = 10 ^ (span_exponent s.unit - span_exponent s.precision)

-- ---- directives

-- the time scale that a directive gives, where it gives one (clause 19.8)
abbrev pub scale_in : Directive → List Timescale
scale_in (g.Timescale unit precision) = record { unit = span_of unit; precision = span_of precision } ∷ []
scale_in (g.DefaultNettype net) = []

-- the time scales that directives give, in their order
abbrev pub scales_in : List Directive → List Timescale
scales_in ds = flat_map scale_in ds

-- the time scales that the directives of a source give, in the order of the text (clause 19.8)
abbrev pub scales_of : Source → List Timescale
scales_of s = flat_map (λ (m : Module). scales_in m.directives.items) s.modules.items ++ scales_in s.directives.items

-- the first of time scales, or 1 ns for both
abbrev pub first_or_default : List Timescale → Timescale
first_or_default [] = DEFAULT_TIMESCALE
first_or_default (s ∷ ss) = s

-- the time scale of a source: its first one holds for the whole text, and without one 1 ns is both (clause 19.8; the whole text, and 1 ns: profile)
abbrev pub timescale_of : Source → Timescale
timescale_of s = first_or_default (scales_of s)

-- whether two time scales are the same: a span of time has one spelling
abbrev pub same_timescale : Timescale → Timescale → Bool
same_timescale s t = (span_exponent s.unit == span_exponent t.unit) && (span_exponent s.precision == span_exponent t.precision)

-- whether a directive of a source gives another time scale than its first one (profile)
abbrev pub has_other_timescale : Source → Bool
has_other_timescale s = list_any (λ t. not (same_timescale (timescale_of s) t)) (scales_of s)
