use Rattle.vs_widths.specs.Names.{meaning_of}
use Rattle.vs_elab_statements.proofs.EventLemmas.{TermsAre, first_terms}
use Rattle.vs_elab_statements.proofs.events.terms.Given as goal

abbrev pub invariant-loop-t : goal.invariant-loop-t
invariant-loop-t l = TermsAre (meaning_of l.names) (first_terms l.first l.others l.t-index) l.done.items
