use Rattle.vs_vcd_lines.proofs.CodeLemmas.{longer_is_code}
use Rattle.vs_vcd_lines.proofs.beginnings_codes.+is_code.Goals as goal

pub returns-then-character-number-2 : goal.returns-then-character-number-2
returns-then-character-number-2 t c =
    longer_is_code c.args.text.now c.args.number c.is_code.result c.in-len1-up.len_at_least c.if-number-lt94.false c.if-character-number-2.true c.is_code.ensures
