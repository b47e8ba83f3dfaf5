use Rattle.std.proofs.Common.{◌++◌, ap, ◌∙◌, arith}
use Rattle.vs_vcd_writing.specs.Codes.{code}
use Rattle.vs_vcd_writing.proofs.DigitLemmas.{line_holds}
use Rattle.vs_vcd_writing.proofs.value.push_change.Goals as goal

pub returns : goal.returns
returns c =
    c.in_ok-extend_from_slice.ensures.items
    ∙ ap (λ l. c.args.text.now.items ++ l)
    (line_holds c.write_value-start.new.room c.write_code-end.new.room c.args.value (code c.args.number) c.write_value-start.result c.write_code-end.result (omega arith) (omega arith)
    c.write_value-start.ensures.most c.write_code-end.ensures.most c.write_value-start.ensures.text c.write_code-end.ensures.text c.write_code-end.ensures.least)
