use Rattle.std.proofs.Common.{codes}
use Rattle.vs_vcd_lines.specs.BeginningsParts.{IsEnd, IsRangeEnd}
use Rattle.vs_vcd_lines.proofs.PartLemmas.{either_first, either_second, fixed_tells}
use Rattle.vs_vcd_lines.proofs.beginnings_variables.begins_variable_end.Goals as goal

pub returns-then-begins : goal.returns-then-begins
returns-then-begins c =
    either_first IsEnd IsRangeEnd c.args.text.now c.begins.result c.if-begins.true
    (fixed_tells c.args.text.now (codes " $end") c.begins.result c.begins.ensures)

pub returns-else-begins : goal.returns-else-begins
returns-else-begins c =
    either_second IsEnd IsRangeEnd c.args.text.now c.begins.result c.begins_range.result c.if-begins.false
    (fixed_tells c.args.text.now (codes " $end") c.begins.result c.begins.ensures) c.begins_range.ensures
