use Rattle.std.proofs.Common.{◌-◌, ℕ, List, false, get_or, length, take, drop, sym, ◌∙◌, arith}
use Rattle.vs_vcd_lines.specs.Beginnings.{BeginsUnit}
use Rattle.vs_vcd_lines.proofs.CodeLemmas.{parts_of}
use Rattle.vs_vcd_lines.proofs.TextLemmas.{as_tells, nil_of}
use Rattle.vs_vcd_lines.proofs.TickLemmas.{unit_multiple, unit_nil, unit_other, unit_second}
use Rattle.vs_vcd_lines.proofs.ticks.begins_unit.Goals as goal

abbrev rest_of : List ℕ → List ℕ
rest_of part = take (length part - 1) (drop 1 part)

pub returns-in_default : goal.returns-in_default
returns-in_default c = unit_nil c.args.part.now (nil_of c.args.part.now (omega arith))

pub returns-then-first-eq115 : goal.returns-then-first-eq115
returns-then-first-eq115 c =
    let part = c.args.part.now in
    unit_second part (rest_of part) (get_or part 0 0) c.begins.result (parts_of part c.in-len1-up.len_at_least) c.if-first-eq115.true c.begins.ensures

pub returns-then-is_multiple : goal.returns-then-is_multiple
returns-then-is_multiple c =
    let part = c.args.part.now in
    unit_multiple part (rest_of part) (get_or part 0 0) c.begins-then-is_multiple.result (parts_of part c.in-len1-up.len_at_least) c.if-first-eq115.false
    (sym c.is_multiple.ensures ∙ c.if-is_multiple.true) c.begins-then-is_multiple.ensures

pub returns-else-is_multiple : goal.returns-else-is_multiple
returns-else-is_multiple c =
    let part = c.args.part.now in
    as_tells (BeginsUnit part) c.is_multiple.result false c.if-is_multiple.false
    (unit_other part (rest_of part) (get_or part 0 0) (parts_of part c.in-len1-up.len_at_least) c.if-first-eq115.false
    (sym c.is_multiple.ensures ∙ c.if-is_multiple.false))
