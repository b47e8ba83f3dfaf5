use Rattle.vs_vcd_writing.specs.Text.{magnitude_word, unit_word, span_text}
use Rattle.vs_vcd_lines.proofs.CutLemmas.{lacks_cut}
use Rattle.vs_vcd_lines.proofs.LineLemmas.{span_middle, span_parts, span_made}
use Rattle.vs_vcd_lines.proofs.lines.span_of.Goals as goal

pub returns-in_default : goal.returns-in_default
returns-in_default c = λ span is. c.in_default.ensures (span_text span) is

pub returns-in_default-cut : goal.returns-in_default-cut
returns-in_default-cut c = λ span is.
    lacks_cut 32 c.in-Some.middle.now (magnitude_word span.magnitude) (unit_word span.unit) c.in_default-cut.ensures (span_middle c.args.line.now c.in-Some.middle.now span c.in-Some.ensures is)

pub returns-in_default-magnitude_of : goal.returns-in_default-magnitude_of
returns-in_default-magnitude_of c = λ span is.
    c.in_default-magnitude_of.ensures span.magnitude
    (span_parts c.args.line.now c.in-Some.middle.now c.in-Some-cut.count.now c.in-Some-cut.word.now span c.in-Some.ensures c.in-Some-cut.ensures is).0

pub returns-in-None : goal.returns-in-None
returns-in-None c = λ span is.
    c.in-None.ensures span.unit
    (span_parts c.args.line.now c.in-Some.middle.now c.in-Some-cut.count.now c.in-Some-cut.word.now span c.in-Some.ensures c.in-Some-cut.ensures is).1

pub returns-in-Some-unit_of : goal.returns-in-Some-unit_of
returns-in-Some-unit_of c =
    span_made c.args.line.now c.in-Some.middle.now c.in-Some-cut.count.now c.in-Some-cut.word.now
    (record { magnitude = c.in-Some-magnitude_of.magnitude; unit = c.in-Some-unit_of.unit })
    c.in-Some.ensures c.in-Some-cut.ensures c.in-Some-magnitude_of.ensures c.in-Some-unit_of.ensures
