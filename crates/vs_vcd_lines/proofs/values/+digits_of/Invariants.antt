use Rattle.std.proofs.Common.{length}
use Rattle.vs_vcd_lines.proofs.values.+digits_of.Given as goal

abbrev pub decreases-digits_of : goal.decreases-digits_of
decreases-digits_of l = length l.text.now
