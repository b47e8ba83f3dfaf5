use Rattle.vs_widths.specs.Names.{meaning_of}
use Rattle.vs_elab_statements.specs.Members.{named_signal}
use Rattle.vs_elab_statements.proofs.AssignmentLemmas.{assigns}
use Rattle.vs_elab_statements.proofs.assignments.declared_assignment.Goals as goal

pub returns : goal.returns
returns c = assigns (meaning_of c.args.names.now) c.args.e.now c.args.how (named_signal c.args.name.now) c.in_ok-target.target c.in_ok-source.source c.in_ok-target.ensures.target c.in_ok-source.ensures
