use Rattle.std.proofs.Common.{get_or, arith}
use Rattle.vs_vcd_lines.proofs.CodeLemmas.{parts_of, rest_of}
use Rattle.vs_vcd_lines.proofs.BeginningsNameLemmas.{name_empty, name_first, name_stopped}
use Rattle.vs_vcd_lines.proofs.TextLemmas.{nil_of}
use Rattle.vs_vcd_lines.proofs.beginnings_names.begins_simple.Goals as goal

pub returns-in_default : goal.returns-in_default
returns-in_default c = name_empty c.args.text.now (nil_of c.args.text.now (omega (arith, c.in_default.len_below)))

pub returns-in-Some : goal.returns-in-Some
returns-in-Some c =
    name_stopped c.args.text.now c.in-Some.field-0.now (rest_of c.args.text.now) (get_or c.args.text.now 0 0) c.requires
    (parts_of c.args.text.now c.in-len1-up.len_at_least) c.in-Some.ensures

pub returns-in-None : goal.returns-in-None
returns-in-None c =
    name_first c.args.text.now (rest_of c.args.text.now) (get_or c.args.text.now 0 0) c.is_first.result c.requires
    (parts_of c.args.text.now c.in-len1-up.len_at_least) c.in-None.ensures c.is_first.ensures
