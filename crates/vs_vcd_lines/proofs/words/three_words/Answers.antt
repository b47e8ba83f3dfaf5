use Rattle.std.proofs.Common.{◌∷◌, ◌++◌}
use Rattle.vs_vcd_lines.proofs.CutLemmas.{lacks_cut}
use Rattle.vs_vcd_lines.proofs.WordLemmas.{three_rest, three_last}
use Rattle.vs_vcd_lines.proofs.words.three_words.Goals as goal

pub returns-in_default : goal.returns-in_default
returns-in_default c = λ a b d rest t. lacks_cut 32 c.args.text.now a (b ++ (32 ∷ (d ++ (32 ∷ rest)))) c.in_default.ensures t.is

pub returns-in_default-cut : goal.returns-in_default-cut
returns-in_default-cut c = λ a b d rest t.
    lacks_cut 32 c.in-Some.after_first.now b (d ++ (32 ∷ rest)) c.in_default-cut.ensures (three_rest c.args.text.now c.in-Some.first.now c.in-Some.after_first.now a b d rest c.in-Some.ensures t).1

pub returns-in-None : goal.returns-in-None
returns-in-None c = λ a b d rest t.
    lacks_cut 32 c.in-Some-cut.after_second.now d rest c.in-None.ensures
    (three_last c.args.text.now c.in-Some.first.now c.in-Some.after_first.now c.in-Some-cut.second.now c.in-Some-cut.after_second.now a b d rest
    c.in-Some.ensures c.in-Some-cut.ensures t).1
