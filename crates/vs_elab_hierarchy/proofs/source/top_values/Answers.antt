use Rattle.std.proofs.Common.{◌∙◌}
use Rattle.vs_elab_hierarchy.proofs.TopLemmas.{top_refused, top_values, no_mismatch, no_outer}
use Rattle.vs_elab_hierarchy.proofs.source.top_values.Goals as goal

pub returns-in-Ok : goal.returns-in-Ok
returns-in-Ok c = top_values c.args.«module».now c.alone-around.result c.in-Ok.values (c.alone-around.ensures ∙ c.new-nothing.ensures) c.in-Ok.ensures.ok

pub returns-in-Err-Own : goal.returns-in-Err-Own
returns-in-Err-Own c =
    top_refused c.args.«module».now c.alone-around.result c.in-Err-Own.reason c.module_fault.result (c.alone-around.ensures ∙ c.new-nothing.ensures)
    (rw c.in-Err-Own.field-0-is at c.in-Err-Own.ensures.fault) (rw c.deref.ensures.value at c.module_fault.ensures)

pub unreachable-requires : goal.unreachable-requires
unreachable-requires c = no_mismatch c.args.«module».now c.alone-around.result (rw c.in-Err-Mismatch.field-0-is at c.in-Err-Mismatch.ensures.fault)

pub unreachable-requires-in-Err-Outer : goal.unreachable-requires-in-Err-Outer
unreachable-requires-in-Err-Outer c = no_outer c.args.«module».now c.alone-around.result _ (rw c.in-Err-Outer.field-0-is at c.in-Err-Outer.ensures.fault)
