use Rattle.std.proofs.Common.{ap, length, arith}
use Rattle.vs_vcd_writing.proofs.CodeLemmas.{length-code}
use Rattle.vs_vcd_lines.proofs.codes.number_of_code.Goals as goal

pub returns-then-text-gt10 : goal.returns-then-text-gt10
returns-then-text-gt10 c = λ n small e. let most = length-code n small in let size = ap length e in absurd (omega (arith, most, size, c.if-text-gt10.true))
