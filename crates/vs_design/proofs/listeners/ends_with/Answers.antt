use Rattle.std.proofs.Common.{sym}
use Rattle.vs_design.proofs.Tables.{last_tells}
use Rattle.vs_design.proofs.listeners.ends_with.Goals as goal

pub returns-in-Some : goal.returns-in-Some
returns-in-Some c = sym (last_tells c.args.process c.in-Some.last.now c.args.row.now (sym c.in-Some.ensures.value))
