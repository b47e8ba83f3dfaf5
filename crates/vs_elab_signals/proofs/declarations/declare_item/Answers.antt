use Rattle.std.proofs.Common.{None, true, refl}
use Rattle.vs_scopes.specs.Ranges.{sized_as}
use Rattle.vs_elab_signals.specs.signal_passes.Declaring.{Declares}
use Rattle.vs_elab_signals.proofs.DeclareLemmas.{size_at, size_integer, kept_still, quiet_item}
use Rattle.vs_elab_signals.proofs.declarations.declare_item.Goals as goal

pub returns-in-Wire : goal.returns-in-Wire
returns-in-Wire c s i =
    let z = sized_as s.known c.in-Wire.form.signed 0 c.in-Wire.form.range in
    rw c.in-Wire.is ((rw c.deref.ensures.value at c.declare_names.ensures) s z i (size_at s.known c.in-Wire.form.signed 0 c.in-Wire.form.range _ _ i.known_is c.declared_size-size.ensures))

pub returns-in-Reg : goal.returns-in-Reg
returns-in-Reg c s i =
    let z = sized_as s.known c.in-Reg.form.signed 0 c.in-Reg.form.range in
    rw c.in-Reg.is ((rw c.deref-in-Reg.ensures.value at c.declare_names-in-Reg.ensures) s z i (size_at s.known c.in-Reg.form.signed 0 c.in-Reg.form.range _ _ i.known_is c.declared_size-size-in-Reg.ensures))

pub returns-in-Integer : goal.returns-in-Integer
returns-in-Integer c s i =
    rw c.in-Integer.is ((rw c.deref-in-Integer.ensures.value at c.declare_names-in-Integer.ensures) s (sized_as s.known true 31 None) i (size_integer s.known _ refl refl refl))

pub returns-in_default : goal.returns-in_default
returns-in_default c s i = kept_still (Declares s c.args.to.now c.args.plan.now) _ (quiet_item s.known c.args.item.now c.in_default.not-Wire c.in_default.not-Reg c.in_default.not-Integer)
