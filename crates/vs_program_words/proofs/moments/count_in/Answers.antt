use Rattle.vs_program_words.proofs.MomentLemmas.{no_count}
use Rattle.vs_program_words.proofs.moments.count_in.Goals as goal

pub returns-in-None-count_of : goal.returns-in-None-count_of
returns-in-None-count_of c = no_count c.args.text.now c.args.letters.now c.in-Some.digits.now c.args.unit c.requires c.in-Some.ensures c.in-None-count_of.ensures
