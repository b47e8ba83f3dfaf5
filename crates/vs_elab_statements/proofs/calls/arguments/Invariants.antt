use Rattle.std.proofs.Common.{take}
use Rattle.vs_widths.specs.Names.{meaning_of}
use Rattle.vs_elab_statements.proofs.CallLemmas.{ArgumentsAre}
use Rattle.vs_elab_statements.proofs.calls.arguments.Given as goal

abbrev pub invariant-loop-one : goal.invariant-loop-one
invariant-loop-one l = ArgumentsAre (meaning_of l.names) (take l.one-index l.all) l.done.items
