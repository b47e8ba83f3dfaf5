use Rattle.std.proofs.Common.{length}
use Rattle.vs_vcd_lines.proofs.codes.+number_of_short.Given as goal

abbrev pub decreases-number_of_short : goal.decreases-number_of_short
decreases-number_of_short l = length l.text.now
