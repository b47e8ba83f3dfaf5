use Rattle.std.proofs.Common.{◌≡◌, ◌++◌, map, drop}
use Rattle.vs_design.specs.Uses.{joined}
use Rattle.vs_design.specs.Statements.{arg_reads}
use Rattle.vs_design.proofs.statement_uses.push_call_reads.Given as goal

abbrev pub invariant-loop-arg : goal.invariant-loop-arg
invariant-loop-arg l = l.out.items ++ joined (map arg_reads (drop l.arg-index l.arg-items)) ≡ l.fn.out.items ++ joined (map arg_reads l.arg-items)
