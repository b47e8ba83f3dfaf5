use Rattle.vs_program_words.proofs.MomentLemmas.{last_unit}
use Rattle.vs_program_words.proofs.moments.moment_of.Goals as goal

pub returns : goal.returns
returns c = last_unit c.args.text.now c.in_default.ensures c.in_default-count_in.ensures c.in_default-count_in-2.ensures c.in_default-count_in-3.ensures
    c.in_default-count_in-4.ensures c.in_default-count_in-5.ensures c.count_in-6.result _ c.count_in-6.ensures
