use Rattle.std.proofs.Common.{◌∷◌, take}
use Rattle.vs_widths.specs.Names.{meaning_of}
use Rattle.vs_elab_statements.proofs.CaseLemmas.{ValuesAre}
use Rattle.vs_elab_statements.proofs.cases.values.Given as goal

abbrev pub invariant-loop-e : goal.invariant-loop-e
invariant-loop-e l = ValuesAre (meaning_of l.names) l.shape.width l.shape.signed (l.first ∷ take l.e-index l.others) l.done.items
