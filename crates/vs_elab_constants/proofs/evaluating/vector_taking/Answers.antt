use Rattle.vs_widths.specs.Names.{meaning_of}
use Rattle.vs_scopes.specs.Parameters.{vector_takes, takes_fault}
use Rattle.vs_elab_constants.proofs.ValueLemmas.{vector_taken, vector_refused}
use Rattle.vs_elab_constants.proofs.evaluating.vector_taking.Goals as goal

pub returns-in-Ok-clause-ok : goal.returns-in-Ok-clause-ok
returns-in-Ok-clause-ok c = vector_taken (meaning_of c.args.known.now) c.args.form.now.signed c.args.form.now.range c.in-Ok.size c.if-is_none.ensures c.in-Ok.ensures

pub returns-in-Err-clause-fault : goal.returns-in-Err-clause-fault
returns-in-Err-clause-fault c =
    c.own_size.ensures (λ w. takes_fault w (vector_takes (meaning_of c.args.known.now) c.args.form.now.signed c.args.form.now.range))
    (vector_refused (meaning_of c.args.known.now) c.args.form.now.signed c.args.form.now.range c.in-Err.fault c.if-is_none.ensures c.in-Err.ensures)
