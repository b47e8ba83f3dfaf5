use Rattle.std.proofs.Common.{take}
use Rattle.vs_kernel.proofs.ScriptLemmas.{AreOf}
use Rattle.vs_kernel.proofs.scripts.scripts_of.Given as goal

abbrev pub invariant-loop-code : goal.invariant-loop-code
invariant-loop-code l = AreOf l.design.signals (take l.code-index l.codes) l.scripts.items
