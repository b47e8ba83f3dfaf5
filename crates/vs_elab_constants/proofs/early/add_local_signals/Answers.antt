use Rattle.std.proofs.Common.{None, true}
use Rattle.vs_scopes.specs.Ranges.{sized_as}
use Rattle.vs_elab_constants.proofs.early.add_local_signals.Goals as goal

pub returns-in-Reg : goal.returns-in-Reg
returns-in-Reg c = rw c.in-Reg.is ((rw c.deref.ensures.value at c.add_locals.ensures) (sized_as (λ n. None) c.in-Reg.field-0.signed 0 c.in-Reg.field-0.range))

pub returns-in-Integer : goal.returns-in-Integer
returns-in-Integer c = rw c.in-Integer.is ((rw c.deref-in-Integer.ensures.value at c.add_locals-in-Integer.ensures) (sized_as (λ n. None) true 31 None))
