use Rattle.std.proofs.Common.{sym, ◌∙◌, arith}
use Rattle.vs_vcd_writing.proofs.CodeLemmas.{code-injective}
use Rattle.vs_vcd_lines.proofs.codes.number_of.Goals as goal

pub returns-in_default : goal.returns-in_default
returns-in_default c = λ n small e. c.in_default.ensures n (omega (arith, small, c.ranges.count)) e

pub returns-else-below : goal.returns-else-below
returns-else-below c = λ n small e.
    let same = code-injective c.in-Some.number n (sym c.in-Some.ensures ∙ e) in
    absurd (omega (arith, small, same, c.if-below.false))
