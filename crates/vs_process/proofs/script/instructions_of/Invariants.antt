use Rattle.std.proofs.Common.{take}
use Rattle.vs_process.specs.Instructions.{AreInstructionsOf}
use Rattle.vs_process.proofs.script.instructions_of.Given as goal

abbrev pub invariant-loop-op : goal.invariant-loop-op
invariant-loop-op l = AreInstructionsOf l.design.signals l.count (take l.op-index l.ops) l.all.items
