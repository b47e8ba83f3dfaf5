use Rattle.std.proofs.Common.{arith}
use Rattle.vs_vcd_lines.proofs.CutLemmas.{cut_at, lacks_by_index, eqb_is, eqb_gives}
use Rattle.vs_vcd_lines.proofs.cuts.cut.Goals as goal

pub returns-in-None : goal.returns-in-None
returns-in-None c = lacks_by_index c.args.byte c.args.text.now (λ j within e. c.in-None.ensures j (omega arith) within (eqb_is _ _ e))

pub returns-in-Some : goal.returns-in-Some
returns-in-Some c = cut_at c.args.byte c.args.text.now c.in-Some.place c.in-Some.ensures.0.high (eqb_gives _ _ c.in-Some.ensures.1) (λ j below e. c.in-Some.ensures.0.before j (omega arith) below (eqb_is _ _ e))
