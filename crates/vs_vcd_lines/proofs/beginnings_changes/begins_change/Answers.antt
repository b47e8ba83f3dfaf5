use Rattle.std.proofs.Common.{eqb, false, get_or, arith}
use Rattle.vs_vcd_lines.specs.Beginnings.{BeginsChange}
use Rattle.vs_vcd_lines.proofs.CutLemmas.{eqb_not}
use Rattle.vs_vcd_lines.proofs.CodeLemmas.{parts_of, rest_of}
use Rattle.vs_vcd_lines.proofs.TextLemmas.{as_tells, nil_of}
use Rattle.vs_vcd_lines.proofs.BeginningsWordLemmas.{bit_line, empty_change, no_letter, word_line}
use Rattle.vs_vcd_lines.proofs.beginnings_changes.begins_change.Goals as goal

pub returns-in_default : goal.returns-in_default
returns-in_default c =
    empty_change c.args.number c.args.width c.args.old c.args.part.now c.requires.some (nil_of c.args.part.now (omega (arith, c.in_default.len_below)))

pub returns-then-width-eq1 : goal.returns-then-width-eq1
returns-then-width-eq1 c =
    bit_line c.args.number c.args.width c.args.old c.args.part.now (rest_of c.args.part.now) (get_or c.args.part.now 0 0) c.begins_bit.result
    (parts_of c.args.part.now c.in-len1-up.len_at_least) c.if-width-eq1.true c.begins_bit.ensures

pub begins_word-requires-clause-some : goal.begins_word-requires-clause-some
begins_word-requires-clause-some c = omega (arith, c.requires.some, c.if-width-eq1.false)

pub returns-then-first-eq98 : goal.returns-then-first-eq98
returns-then-first-eq98 c =
    word_line c.args.number c.args.width c.args.old c.args.part.now (rest_of c.args.part.now) (get_or c.args.part.now 0 0) c.begins_word.result
    (parts_of c.args.part.now c.in-len1-up.len_at_least) c.if-first-eq98.true c.begins_word.ensures

pub returns-else-first-eq98 : goal.returns-else-first-eq98
returns-else-first-eq98 c =
    as_tells (BeginsChange c.args.number c.args.width c.args.old c.args.part.now) (eqb (get_or c.args.part.now 0 0) 98) false
    (eqb_not (get_or c.args.part.now 0 0) 98 c.if-first-eq98.false)
    (no_letter c.args.number c.args.width c.args.old c.args.part.now (rest_of c.args.part.now) (get_or c.args.part.now 0 0)
    (omega (arith, c.requires.some, c.if-width-eq1.false)) (parts_of c.args.part.now c.in-len1-up.len_at_least) c.if-first-eq98.false)
