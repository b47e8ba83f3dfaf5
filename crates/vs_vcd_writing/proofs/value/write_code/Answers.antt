use Rattle.std.proofs.Common.{◌+◌, ◌%◌, ◌++◌, take, refl, sym, ap, ◌∙◌, arith}
use Rattle.std.proofs.lemmas.List.{take_more_set}
use Rattle.vs_vcd_writing.proofs.CodeLemmas.{code-short, code_more, length-code, length-code-long, length-code-least}
use Rattle.vs_vcd_writing.proofs.value.write_code.Goals as goal

pub loop-rest-init : goal.loop-rest-init
loop-rest-init c = record {
  least = omega arith;
  most = omega (arith, length-code c.args.number (omega arith));
  text = refl;
}

pub loop-rest-preserved : goal.loop-rest-preserved
loop-rest-preserved c = record {
  least = omega arith;
  most = omega (arith, length-code-long c.loop-rest.rest c.loop-rest-test.true);
  text = code_more (take c.loop-rest.end c.loop-rest.room) _ _ c.loop-rest.rest c.loop-rest-test.true
      (take_more_set c.loop-rest.room c.loop-rest.end (33 + c.loop-rest.rest % 94) (omega arith)) c.loop-rest.invariant.text;
}

pub returns-clause-text : goal.returns-clause-text
returns-clause-text c =
    take_more_set c.loop-rest.room c.loop-rest.end (33 + c.loop-rest.rest) (omega arith)
    ∙ ap (λ l. take c.loop-rest.end c.loop-rest.room ++ l) (sym (code-short c.loop-rest.rest c.loop-rest-test.false)) ∙ c.loop-rest.invariant.text

pub returns-clause-most : goal.returns-clause-most
returns-clause-most c = omega (arith, length-code-least c.loop-rest.rest)
