use Rattle.std.proofs.Common.{length}
use Rattle.vs_vcd_lines.proofs.beginnings_codes.+is_code.Given as goal

abbrev pub decreases-is_code : goal.decreases-is_code
decreases-is_code l = length l.text.now
