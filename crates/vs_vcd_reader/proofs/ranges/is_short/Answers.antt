use Rattle.vs_vcd_reader.proofs.RangeLemmas.{short_number}
use Rattle.vs_vcd_reader.proofs.ranges.is_short.Goals as goal

pub returns : goal.returns
returns c = short_number c.args.number c.ranges.number.sfits
