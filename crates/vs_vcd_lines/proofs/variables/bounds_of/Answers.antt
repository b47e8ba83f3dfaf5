use Rattle.std.specs.Fmt.{signed_decimal}
use Rattle.vs_vcd_lines.proofs.CutLemmas.{lacks_cut}
use Rattle.vs_vcd_lines.proofs.VariableLemmas.{bounds_parts}
use Rattle.vs_vcd_lines.proofs.variables.bounds_of.Goals as goal

pub returns-in_default : goal.returns-in_default
returns-in_default c = λ b h. lacks_cut 58 c.args.text.now (signed_decimal b.left) (signed_decimal b.right) c.in_default.ensures h.is

pub returns-in_default-signed_of : goal.returns-in_default-signed_of
returns-in_default-signed_of c = λ b h.
    c.in_default-signed_of.ensures b.left h.left (bounds_parts c.args.text.now c.in-Some.first.now c.in-Some.last.now b c.in-Some.ensures h).0

pub returns-in-None : goal.returns-in-None
returns-in-None c = λ b h.
    c.in-None.ensures b.right h.right (bounds_parts c.args.text.now c.in-Some.first.now c.in-Some.last.now b c.in-Some.ensures h).1
