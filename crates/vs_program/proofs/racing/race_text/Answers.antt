use Rattle.std.proofs.Common.{rules}
use Rattle.vs_program.proofs.racing.race_text.Goals as goal

pub returns : goal.returns
returns c = (c.in_ok-more.more.items, search rules)
