use Rattle.std.proofs.Common.{None, true, refl}
use Rattle.vs_scopes.specs.Ranges.{sized_as}
use Rattle.vs_elab_signals.proofs.DeclareLemmas.{size_at, size_integer}
use Rattle.vs_elab_signals.proofs.declarations.declare_locally.Goals as goal

pub returns-in-Reg : goal.returns-in-Reg
returns-in-Reg c s i =
    let z = sized_as s.known c.in-Reg.form.signed 0 c.in-Reg.form.range in
    rw c.in-Reg.is ((rw c.deref.ensures.value at c.declare_locals.ensures) s z i (size_at s.known c.in-Reg.form.signed 0 c.in-Reg.form.range _ _ i.known_is c.declared_size-size.ensures))

pub returns-in-Integer : goal.returns-in-Integer
returns-in-Integer c s i =
    rw c.in-Integer.is ((rw c.deref-in-Integer.ensures.value at c.declare_locals-in-Integer.ensures) s (sized_as s.known true 31 None) i (size_integer s.known _ refl refl refl))
