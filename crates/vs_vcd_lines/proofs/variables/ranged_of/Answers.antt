use Rattle.std.proofs.Common.{◌∷◌, ◌++◌, codes, sym, ◌∙◌}
use Rattle.std.specs.Fmt.{signed_decimal}
use Rattle.std.proofs.lemmas.Bool.{false≢true}
use Rattle.vs_vcd_lines.proofs.CutLemmas.{lacks_cut}
use Rattle.vs_vcd_lines.proofs.VariableLemmas.{opened, ranged_whole, ranged_open, ranged_parts, ranged_name, ranged_bounds, ranged_made}
use Rattle.vs_vcd_lines.proofs.variables.ranged_of.Goals as goal

pub returns-in_default : goal.returns-in_default
returns-in_default c = λ name b h. c.in_default.ensures (opened name b) (ranged_whole c.args.text.now name b h)

pub returns-in_default-cut_last : goal.returns-in_default-cut_last
returns-in_default-cut_last c = λ name b h.
    lacks_cut 91 c.in-Some.front.now (name ++ codes " ") (signed_decimal b.left ++ (58 ∷ signed_decimal b.right)) c.in_default-cut_last.ensures
    (ranged_open c.args.text.now c.in-Some.front.now name b c.in-Some.ensures h)

pub returns-in_default-before : goal.returns-in_default-before
returns-in_default-before c = λ name b h.
    c.in_default-before.ensures name
    (ranged_parts c.args.text.now c.in-Some.front.now c.in-Some-cut_last.start.now c.in-Some-cut_last.range.now name b c.in-Some.ensures c.in-Some-cut_last.ensures h).0

pub returns-else-named : goal.returns-else-named
returns-else-named c = λ name b h.
    false≢true (sym c.if-named.false ∙ c.is_name-named.ensures.1
    (ranged_name c.args.text.now c.in-Some.front.now c.in-Some-cut_last.start.now c.in-Some-cut_last.range.now c.in-Some-before.name.now name b c.in-Some.ensures
    c.in-Some-cut_last.ensures c.in-Some-before.ensures h))

pub returns-in_default-bounds_of : goal.returns-in_default-bounds_of
returns-in_default-bounds_of c = λ name b h.
    c.in_default-bounds_of.ensures b
    (ranged_bounds c.args.text.now c.in-Some.front.now c.in-Some-cut_last.start.now c.in-Some-cut_last.range.now name b c.in-Some.ensures c.in-Some-cut_last.ensures h)

pub returns-then-named : goal.returns-then-named
returns-then-named c =
    ranged_made c.args.text.now c.in-Some.front.now c.in-Some-cut_last.start.now c.in-Some-cut_last.range.now c.in-Some-before.name.now c.in-Some-bounds_of.bounds
    c.in-Some.ensures c.in-Some-cut_last.ensures c.in-Some-before.ensures (c.is_name-named.ensures.0 c.if-named.true) c.in-Some-bounds_of.ensures
