use Rattle.std.proofs.Common.{◌≡◌, take}
use Rattle.vs_scopes.specs.vs_widths.specs.Findings.{Has}
use Rattle.vs_widths.specs.Names.{meaning_of}
use Rattle.vs_elab_statements.specs.Statements.{common_finding}
use Rattle.vs_elab_statements.proofs.cases.with_exprs.Given as goal

abbrev pub invariant-loop-e : goal.invariant-loop-e
invariant-loop-e l = common_finding (meaning_of l.names) (Has l.fn.shape.width l.fn.shape.signed) (take l.e-index l.es) ≡ Has l.all.width l.all.signed
