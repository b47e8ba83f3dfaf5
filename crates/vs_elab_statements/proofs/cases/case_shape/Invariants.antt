use Rattle.std.proofs.Common.{◌≡◌, take}
use Rattle.vs_scopes.specs.vs_widths.specs.Findings.{Has}
use Rattle.vs_widths.specs.Expressions.{meant}
use Rattle.vs_widths.specs.Names.{meaning_of}
use Rattle.vs_elab_statements.specs.Statements.{common_finding}
use Rattle.vs_elab_statements.proofs.CaseLemmas.{exprs_in}
use Rattle.vs_elab_statements.proofs.cases.case_shape.Given as goal

abbrev pub invariant-loop-label : goal.invariant-loop-label
invariant-loop-label l = common_finding (meaning_of l.names) (meant (meaning_of l.names) l.e).finding (exprs_in (take l.label-index l.items)) ≡ Has l.all.width l.all.signed
