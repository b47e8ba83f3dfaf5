use Rattle.std.proofs.Common.{length, refl}
use Rattle.vs_vcd_reader.proofs.NoneLemmas.{other_value}
use Rattle.vs_vcd_reader.proofs.first.value_of.Goals as goal

pub returns-else-change-number : goal.returns-else-change-number
returns-else-change-number c =
    other_value c.args.widths.now c.args.line.now c.args.number (length c.args.widths.now) _ c.in-Some.change c.in-Some.ensures c.if-change-number.false refl
    c.body_fault-else-change-number.ensures
