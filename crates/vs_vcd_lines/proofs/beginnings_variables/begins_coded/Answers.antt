use Rattle.vs_vcd_lines.specs.vs_vcd_writing.specs.Codes.{code}
use Rattle.vs_vcd_lines.specs.BeginningsParts.{IsCode, IsNamedRest}
use Rattle.vs_vcd_lines.proofs.PartLemmas.{fixed_tells, joined_cut, joined_other, joined_uncut}
use Rattle.vs_vcd_lines.proofs.BeginningsVariableLemmas.{codes_lack, named_rest_some}
use Rattle.vs_vcd_lines.proofs.beginnings_variables.begins_coded.Goals as goal

pub returns-then-is_code : goal.returns-then-is_code
returns-then-is_code c =
    joined_cut 32 (IsCode c.args.number) IsNamedRest c.args.text.now c.in-Some.code.now c.in-Some.rest.now _ (codes_lack c.args.number) c.in-Some.ensures
    (c.is_code.ensures.0 c.if-is_code.true) c.begins_named.ensures

pub returns-else-is_code : goal.returns-else-is_code
returns-else-is_code c =
    joined_other 32 (IsCode c.args.number) IsNamedRest c.args.text.now c.in-Some.code.now c.in-Some.rest.now c.is_code.result (codes_lack c.args.number) c.in-Some.ensures
    c.if-is_code.false c.is_code.ensures

pub returns-in-None : goal.returns-in-None
returns-in-None c = joined_uncut 32 (IsCode c.args.number) IsNamedRest c.args.text.now _ c.in-None.ensures named_rest_some (fixed_tells c.args.text.now (code c.args.number) c.begins_code.result c.begins_code.ensures)
