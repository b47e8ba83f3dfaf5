use Rattle.std.proofs.Common.{zero, suc, arith}
use Rattle.vs_vcd_writing.proofs.DigitLemmas.{lane_of}
use Rattle.vs_vcd_writing.proofs.value.eight_digits.Goals as goal

pub returns-clause-digits : goal.returns-clause-digits
returns-clause-digits c zero h = lane_of c.args.value c.args.unknown 0 h
returns-clause-digits c (suc zero) h = lane_of c.args.value c.args.unknown 1 h
returns-clause-digits c (suc (suc zero)) h = lane_of c.args.value c.args.unknown 2 h
returns-clause-digits c (suc (suc (suc zero))) h = lane_of c.args.value c.args.unknown 3 h
returns-clause-digits c (suc (suc (suc (suc zero)))) h = lane_of c.args.value c.args.unknown 4 h
returns-clause-digits c (suc (suc (suc (suc (suc zero))))) h = lane_of c.args.value c.args.unknown 5 h
returns-clause-digits c (suc (suc (suc (suc (suc (suc zero)))))) h = lane_of c.args.value c.args.unknown 6 h
returns-clause-digits c (suc (suc (suc (suc (suc (suc (suc zero))))))) h = lane_of c.args.value c.args.unknown 7 h
returns-clause-digits c (suc (suc (suc (suc (suc (suc (suc (suc k)))))))) h = absurd (omega arith)
