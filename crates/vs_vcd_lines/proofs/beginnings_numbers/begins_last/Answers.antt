use Rattle.std.proofs.Common.{codes}
use Rattle.vs_vcd_lines.specs.Names.{IsNumber}
use Rattle.vs_vcd_lines.specs.BeginningsParts.{IsEnd}
use Rattle.vs_vcd_lines.proofs.PartLemmas.{fixed_tells, joined_cut, joined_other, joined_uncut}
use Rattle.vs_vcd_lines.proofs.ScopeLemmas.{end_some, numbers_lack_bracket}
use Rattle.vs_vcd_lines.proofs.beginnings_numbers.begins_last.Goals as goal

pub returns-then-is_number : goal.returns-then-is_number
returns-then-is_number c =
    joined_cut 93 IsNumber IsEnd c.args.text.now c.in-Some.number.now c.in-Some.rest.now _ numbers_lack_bracket c.in-Some.ensures
    (c.is_number.ensures.0 c.if-is_number.true) (fixed_tells c.in-Some.rest.now (codes " $end") c.begins.result c.begins.ensures)

pub returns-else-is_number : goal.returns-else-is_number
returns-else-is_number c =
    joined_other 93 IsNumber IsEnd c.args.text.now c.in-Some.number.now c.in-Some.rest.now c.is_number.result numbers_lack_bracket c.in-Some.ensures
    c.if-is_number.false c.is_number.ensures

pub returns-in-None : goal.returns-in-None
returns-in-None c = joined_uncut 93 IsNumber IsEnd c.args.text.now _ c.in-None.ensures end_some c.begins_number.ensures
