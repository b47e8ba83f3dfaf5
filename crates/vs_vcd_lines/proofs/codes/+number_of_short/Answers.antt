use Rattle.vs_vcd_lines.proofs.CodeLemmas.{number_some, number_none}
use Rattle.vs_vcd_lines.proofs.codes.+number_of_short.Goals as goal

pub returns-in-Some : goal.returns-in-Some
returns-in-Some t c = number_some c.args.text.now c.in-Some.above c.number_above.result c.in-len1-up.len_at_least c.if-first-lt33.false c.if-first-gt126.false c.in-Some.ensures c.number_above.ensures

pub returns-in-None : goal.returns-in-None
returns-in-None t c = number_none c.args.text.now c.in-len1-up.len_at_least c.if-text-eq1.false c.in-None.ensures
