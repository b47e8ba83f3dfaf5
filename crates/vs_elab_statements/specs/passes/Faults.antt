-- Faults of statements.
use Rattle.std.specs.Prelude.{ℕ, ◌<◌}
use Rattle.vs_scopes.specs.declared.faults.BodyFault.{BodyFault}
use Rattle.vs_scopes.specs.declared.faults.BodyFault.TheVariants as b
use Rattle.vs_elab_statements.specs.declared.faults.StatementFault.{StatementFault}
use Rattle.vs_elab_statements.specs.declared.faults.StatementFault.TheVariants.{Memory, Overfull, Refused, Inside}

-- a fault of a part of a scope, as one of a statement there
abbrev pub as_statement_fault : BodyFault → StatementFault
as_statement_fault b.Memory = Memory
as_statement_fault (b.Refused r) = Refused r

-- a fault of statements of the scope of a place, as one of the statement that they stand in
abbrev pub deeper : ℕ → StatementFault → StatementFault
deeper place (Refused r) = Inside place r
deeper place Memory = Memory
deeper place Overfull = Overfull
deeper place (Inside k r) = Inside k r

-- the scope of a fault that stands further inside has a place below this number
abbrev pub IsBelow : ℕ → StatementFault → Type 0
IsBelow n (Inside k r) = k < n
IsBelow n _ = Unit {0}
