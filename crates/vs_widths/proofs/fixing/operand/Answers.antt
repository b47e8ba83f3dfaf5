use Rattle.vs_widths.proofs.FixingLemmas.{operand_as}
use Rattle.vs_widths.proofs.fixing.operand.Goals as goal

pub returns : goal.returns
returns c = operand_as c.args.chosen_bits c.in_ok-form.form c.in_ok-new.field-0 c.in_ok-new.ensures.ok c.in_ok-form.ensures
