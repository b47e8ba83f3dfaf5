-- Variables and nets.
use Rattle.std.specs.Prelude.{Bool, true, false}
use Rattle.vs_design.specs.declared.signal.SignalKind.{SignalKind}
use Rattle.vs_design.specs.declared.signal.SignalKind.TheVariants.{Wire, Reg, Integer}

-- whether a signal is a variable; otherwise it is a net (clause 4.2)
abbrev pub is_variable : SignalKind → Bool
is_variable Wire = false
is_variable Reg = true
is_variable Integer = true
