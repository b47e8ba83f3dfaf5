use Rattle.std.proofs.lemmas.Bool.{false≢true}
use Rattle.vs_vcd_lines.proofs.NameLemmas.{turn_is, no_start}
use Rattle.vs_vcd_lines.proofs.names.is_turn.Goals as goal

pub returns-in-None : goal.returns-in-None
returns-in-None c = (λ e. absurd (false≢true e), λ t. absurd (no_start c.args.text.now c.in-Some.front.now c.in-Some.ensures c.in-None.ensures t))

pub returns-in-Some-cut_last : goal.returns-in-Some-cut_last
returns-in-Some-cut_last c =
    turn_is c.args.text.now c.in-Some.front.now c.in-Some-cut_last.name.now c.in-Some-cut_last.number.now c.are_of_turn.result c.in-Some.ensures
    c.in-Some-cut_last.ensures c.are_of_turn.ensures
