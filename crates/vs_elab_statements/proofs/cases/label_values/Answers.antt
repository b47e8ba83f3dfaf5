use Rattle.vs_widths.specs.Names.{meaning_of}
use Rattle.vs_elab_statements.proofs.CaseLemmas.{no_values}
use Rattle.vs_elab_statements.proofs.cases.label_values.Goals as goal

pub returns-in-Default : goal.returns-in-Default
returns-in-Default c = rw c.in-Default.is (no_values (meaning_of c.args.names.now) c.args.shape.width c.args.shape.signed c.new.result.items c.new.ensures.items)
