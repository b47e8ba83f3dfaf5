use Rattle.std.proofs.Common.{sym, ◌∙◌}
use Rattle.vs_process.proofs.SwitchLemmas.{number_told}
use Rattle.vs_process.proofs.switch.number_of.Goals as goal

pub returns-then-width : goal.returns-then-width
returns-then-width c =
    number_told c.args.label.e.now c.in-Number.literal c.args.width c.to_number.result c.in-Number.is (sym c.width.ensures.digits ∙ c.if-width.true) c.to_number.ensures
