use Rattle.std.proofs.Common.{None, true}
use Rattle.vs_scopes.specs.Ranges.{sized_as}
use Rattle.vs_elab_constants.specs.passes.Early.{bound_by}
use Rattle.vs_elab_constants.proofs.EarlyLemmas.{adds_none, quiet_item}
use Rattle.vs_elab_constants.proofs.early.add_item_signals.Goals as goal

pub returns-in-Wire : goal.returns-in-Wire
returns-in-Wire c = rw c.in-Wire.is ((rw c.deref.ensures.value at c.add_declarators.ensures) (sized_as (λ n. None) c.in-Wire.field-0.signed 0 c.in-Wire.field-0.range))

pub returns-in-Reg : goal.returns-in-Reg
returns-in-Reg c = rw c.in-Reg.is ((rw c.deref-in-Reg.ensures.value at c.add_declarators-in-Reg.ensures) (sized_as (λ n. None) c.in-Reg.field-0.signed 0 c.in-Reg.field-0.range))

pub returns-in-Integer : goal.returns-in-Integer
returns-in-Integer c = rw c.in-Integer.is ((rw c.deref-in-Integer.ensures.value at c.add_declarators-in-Integer.ensures) (sized_as (λ n. None) true 31 None))

pub returns-in_default : goal.returns-in_default
returns-in_default c = adds_none c.args.names.now _ (quiet_item (bound_by c.args.signals) c.args.item.now c.in_default.not-Wire c.in_default.not-Reg c.in_default.not-Integer)
