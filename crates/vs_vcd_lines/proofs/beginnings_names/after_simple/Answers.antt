use Rattle.std.proofs.Common.{get_or, sym, ◌∙◌, arith}
use Rattle.vs_vcd_lines.proofs.CodeLemmas.{parts_of, rest_of}
use Rattle.vs_vcd_lines.proofs.BeginningsNameLemmas.{nothing_within, other_within, simple_cut}
use Rattle.vs_vcd_lines.proofs.TextLemmas.{nil_of}
use Rattle.vs_vcd_lines.proofs.beginnings_names.after_simple.Goals as goal

pub returns-in_default : goal.returns-in_default
returns-in_default c = nothing_within c.args.text.now (nil_of c.args.text.now (omega (arith, c.in_default.len_below)))

pub returns-then-not-begins : goal.returns-then-not-begins
returns-then-not-begins c =
    other_within c.args.text.now (rest_of c.args.text.now) (get_or c.args.text.now 0 0) c.requires (parts_of c.args.text.now c.in-len1-up.len_at_least)
    (sym c.is_first-begins.ensures ∙ c.if-not-begins.true)

pub returns : goal.returns
returns c =
    simple_cut c.args.text.now (rest_of c.args.text.now) (get_or c.args.text.now 0 0) c.from_other.result c.requires
    (parts_of c.args.text.now c.in-len1-up.len_at_least) (sym c.is_first-begins.ensures ∙ c.if-not-begins.false) c.from_other.ensures
