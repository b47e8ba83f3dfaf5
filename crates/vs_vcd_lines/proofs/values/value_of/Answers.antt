use Rattle.std.proofs.Common.{reverse, sym, ◌∙◌, arith}
use Rattle.std.proofs.lemmas.Bool.{false≢true}
use Rattle.vs_vcd_writing.specs.Values.{shortened}
use Rattle.vs_vcd_lines.proofs.ValueLemmas.{value_made, value_spelled, value_short, value_kept}
use Rattle.vs_vcd_lines.proofs.values.value_of.Goals as goal

pub returns-in_default : goal.returns-in_default
returns-in_default c = λ v h. c.in_default.ensures (shortened (reverse v)) (value_spelled c.args.text.now c.args.width v c.requires.some h)

pub returns-then-longer : goal.returns-then-longer
returns-then-longer c = λ w h.
    false≢true (sym (c.gives_first_back-longer.ensures.given (value_kept c.args.text.now c.args.width c.in-Some.value w c.requires.some c.in-Some.ensures.1 h)) ∙ c.if-longer.true)

pub returns : goal.returns
returns c =
    value_made c.args.text.now c.args.width c.in-Some.value c.extend.result c.in-Some.ensures.1 (c.gives_first_back-longer.ensures.kept c.if-longer.false)
    c.extend.ensures.wide c.extend.ensures.digits

pub returns-then-text-most : goal.returns-then-text-most
returns-then-text-most c = λ v h. let less = value_short c.args.text.now c.args.width v c.requires.some h in absurd (omega (arith, less, c.if-text-most.true))
