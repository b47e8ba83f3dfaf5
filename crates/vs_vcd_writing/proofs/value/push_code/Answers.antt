use Rattle.std.proofs.Common.{◌++◌, refl, ap, ◌∙◌}
use Rattle.std.specs.Prelude.{replicate}
use Rattle.vs_vcd_writing.specs.Codes.{code}
use Rattle.vs_vcd_writing.proofs.DigitLemmas.{code_holds}
use Rattle.vs_vcd_writing.proofs.value.push_code.Goals as goal

pub returns : goal.returns
returns c =
    c.in_ok-extend_from_slice.ensures.items
    ∙ ap (λ l. c.args.text.now.items ++ l) (code_holds (replicate 80 48) c.write_code-end.new.room (code c.args.number) c.write_code-end.result c.write_code-end.ensures.text c.write_code-end.ensures.least refl)
