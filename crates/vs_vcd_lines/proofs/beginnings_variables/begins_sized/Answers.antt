use Rattle.vs_vcd_lines.specs.BeginningsParts.{IsCodedRest, IsSomeSize}
use Rattle.vs_vcd_lines.proofs.BeginningsVariableLemmas.{coded_some, sizes_lack}
use Rattle.vs_vcd_lines.proofs.PartLemmas.{joined_cut, joined_other, joined_uncut}
use Rattle.vs_vcd_lines.proofs.beginnings_variables.begins_sized.Goals as goal

pub returns-then-is_size : goal.returns-then-is_size
returns-then-is_size c =
    joined_cut 32 IsSomeSize (IsCodedRest c.args.number) c.args.text.now c.in-Some.size.now c.in-Some.rest.now _ sizes_lack c.in-Some.ensures
    (c.is_size.ensures.0 c.if-is_size.true) c.begins_coded.ensures

pub returns-else-is_size : goal.returns-else-is_size
returns-else-is_size c =
    joined_other 32 IsSomeSize (IsCodedRest c.args.number) c.args.text.now c.in-Some.size.now c.in-Some.rest.now c.is_size.result sizes_lack c.in-Some.ensures
    c.if-is_size.false c.is_size.ensures

pub returns-in-None : goal.returns-in-None
returns-in-None c = joined_uncut 32 IsSomeSize (IsCodedRest c.args.number) c.args.text.now _ c.in-None.ensures (coded_some c.args.number) c.begins_size.ensures
