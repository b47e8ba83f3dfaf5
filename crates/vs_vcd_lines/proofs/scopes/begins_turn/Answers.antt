use Rattle.std.proofs.Common.{codes}
use Rattle.vs_vcd_lines.specs.BeginningsParts.{IsLast}
use Rattle.vs_vcd_lines.proofs.PartLemmas.{prefixed_after, prefixed_before}
use Rattle.vs_vcd_lines.proofs.ScopeLemmas.{last_some}
use Rattle.vs_vcd_lines.proofs.scopes.begins_turn.Goals as goal

pub returns-in-Some : goal.returns-in-Some
returns-in-Some c =
    prefixed_after (codes "[") IsLast c.args.text.now c.in-Some.number.now c.begins_last.result c.in-Some.ensures c.begins_last.ensures

pub returns-in-None : goal.returns-in-None
returns-in-None c = prefixed_before (codes "[") IsLast c.args.text.now c.begins.result c.in-None.ensures last_some c.begins.ensures
