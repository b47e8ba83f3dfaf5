use Rattle.vs_vcd_lines.specs.Names.{IsNumber}
use Rattle.vs_vcd_lines.specs.BeginningsParts.{IsLast}
use Rattle.vs_vcd_lines.proofs.ScopeLemmas.{last_some, numbers_lack_colon}
use Rattle.vs_vcd_lines.proofs.PartLemmas.{joined_cut, joined_other, joined_uncut}
use Rattle.vs_vcd_lines.proofs.beginnings_numbers.begins_bounds.Goals as goal

pub returns-then-is_number : goal.returns-then-is_number
returns-then-is_number c =
    joined_cut 58 IsNumber IsLast c.args.text.now c.in-Some.left.now c.in-Some.rest.now _ numbers_lack_colon c.in-Some.ensures
    (c.is_number.ensures.0 c.if-is_number.true) c.begins_last.ensures

pub returns-else-is_number : goal.returns-else-is_number
returns-else-is_number c =
    joined_other 58 IsNumber IsLast c.args.text.now c.in-Some.left.now c.in-Some.rest.now c.is_number.result numbers_lack_colon c.in-Some.ensures
    c.if-is_number.false c.is_number.ensures

pub returns-in-None : goal.returns-in-None
returns-in-None c = joined_uncut 58 IsNumber IsLast c.args.text.now _ c.in-None.ensures last_some c.begins_number.ensures
