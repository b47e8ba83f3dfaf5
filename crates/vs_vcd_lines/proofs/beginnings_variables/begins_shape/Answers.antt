use Rattle.vs_vcd_lines.specs.BeginningsParts.{IsKind, IsSizedRest}
use Rattle.vs_vcd_lines.proofs.BeginningsVariableLemmas.{kinds_lack, sized_some}
use Rattle.vs_vcd_lines.proofs.PartLemmas.{joined_cut, joined_other, joined_uncut}
use Rattle.vs_vcd_lines.proofs.beginnings_variables.begins_shape.Goals as goal

pub returns-then-is_kind : goal.returns-then-is_kind
returns-then-is_kind c =
    joined_cut 32 IsKind (IsSizedRest c.args.number) c.args.text.now c.in-Some.kind.now c.in-Some.rest.now _ kinds_lack c.in-Some.ensures
    (c.is_kind.ensures.0 c.if-is_kind.true) c.begins_sized.ensures

pub returns-else-is_kind : goal.returns-else-is_kind
returns-else-is_kind c =
    joined_other 32 IsKind (IsSizedRest c.args.number) c.args.text.now c.in-Some.kind.now c.in-Some.rest.now c.is_kind.result kinds_lack c.in-Some.ensures
    c.if-is_kind.false c.is_kind.ensures

pub returns-in-None : goal.returns-in-None
returns-in-None c = joined_uncut 32 IsKind (IsSizedRest c.args.number) c.args.text.now _ c.in-None.ensures (sized_some c.args.number) c.begins_kind.ensures
