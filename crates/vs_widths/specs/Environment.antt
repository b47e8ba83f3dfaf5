-- What the names of a scope mean.
use Rattle.std.specs.Prelude.{ℕ, List, Option}
use Rattle.vs_widths.specs.declared.bindings.Binding.{Binding}

-- what each name is bound to, where it is declared (clause 12.7)
abbrev pub Environment : Type 0
Environment = List ℕ → Option Binding
