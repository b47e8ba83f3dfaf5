use Rattle.std.proofs.Common.{length}
use Rattle.vs_vcd_lines.proofs.beginnings_codes.+begins_code.Given as goal

-- proposed from what the function passes where it calls itself
abbrev pub decreases-begins_code : goal.decreases-begins_code
decreases-begins_code l = length l.part.now
