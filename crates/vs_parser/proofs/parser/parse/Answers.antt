use Rattle.vs_parser.proofs.Faulty.{not_refused, same_source}
use Rattle.vs_parser.proofs.parser.parse.Goals as goal

pub returns-in-Ok-clause-complete : goal.returns-in-Ok-clause-complete
returns-in-Ok-clause-complete c = λ x s. same_source _ _ x c.in-Ok.ensures s.source s.text

pub returns-in-Err-clause-complete : goal.returns-in-Err-clause-complete
returns-in-Err-clause-complete c = λ x s. not_refused _ _ x c.fault_of.ensures s.source s.text
