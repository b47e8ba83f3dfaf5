use Rattle.vs_program_words.proofs.TargetLemmas.{failed_of, found_of}
use Rattle.vs_program_words.proofs.target.target_of.Goals as goal

pub returns-in-Some-clause-ok : goal.returns-in-Some-clause-ok
returns-in-Some-clause-ok c = found_of c.args.text.now c.args.call.now c.in-Some.source c.target_in.result (rw c.in-Some.is at c.in_ok-source.ensures) c.target_in.ensures.ok

pub returns-in-Some-clause-err : goal.returns-in-Some-clause-err
returns-in-Some-clause-err c = failed_of c.args.text.now c.args.call.now c.in-Some.source c.target_in.result (rw c.in-Some.is at c.in_ok-source.ensures) c.target_in.ensures.err
