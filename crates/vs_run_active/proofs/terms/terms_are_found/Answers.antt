use Rattle.vs_run_active.proofs.TermsLemmas.{terms_are_found}
use Rattle.vs_run_active.proofs.terms.terms_are_found.Goals as goal

pub returns : goal.returns
returns c = terms_are_found
