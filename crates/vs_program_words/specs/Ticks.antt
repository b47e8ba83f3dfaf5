-- What a tick of a source stands for.
use Rattle.std.specs.Prelude.{ℕ, ◌≡◌, ◌-◌, ◌*◌, ◌^◌}
use Rattle.vs_design.specs.declared.timescale.TimeUnit.{TimeUnit}
use Rattle.vs_syntax.specs.declared.tree.Source.{Source}
use Rattle.vs_elaborate.specs.Timescales.{span_exponent, timescale_of, unit_exponent}

-- the power of ten that a tick of a source is in femtoseconds (clause 19.8)
abbrev pub tick_exponent : Source → ℕ
tick_exponent s = span_exponent (timescale_of s).precision

-- so many of a unit are so many ticks, of which each is this power of ten in femtoseconds
abbrev pub AreTicks : ℕ → TimeUnit → ℕ → ℕ → Type 0
AreTicks count unit tick n = count * 10 ^ (unit_exponent unit - tick) ≡ n * 10 ^ (tick - unit_exponent unit)
