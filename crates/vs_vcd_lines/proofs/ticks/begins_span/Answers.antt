use Rattle.std.proofs.Common.{false, sym, ◌∙◌}
use Rattle.std.proofs.lemmas.Bool.{false≢true}
use Rattle.vs_vcd_lines.specs.Beginnings.{BeginsSpan}
use Rattle.vs_vcd_lines.proofs.TextLemmas.{as_tells}
use Rattle.vs_vcd_lines.proofs.TickLemmas.{span_cut, span_uncounted, span_uncut}
use Rattle.vs_vcd_lines.proofs.ticks.begins_span.Goals as goal

pub returns-then-is_count : goal.returns-then-is_count
returns-then-is_count c =
    span_cut c.args.part.now c.in-Some.count.now c.in-Some.unit.now c.begins_unit.result c.in-Some.ensures (c.is_count.ensures.0 c.if-is_count.true)
    c.begins_unit.ensures

pub returns-else-is_count : goal.returns-else-is_count
returns-else-is_count c =
    as_tells (BeginsSpan c.args.part.now) c.is_count.result false c.if-is_count.false
    (span_uncounted c.args.part.now c.in-Some.count.now c.in-Some.unit.now c.in-Some.ensures (λ h. false≢true (sym c.if-is_count.false ∙ c.is_count.ensures.1 h)))

pub returns-in-None : goal.returns-in-None
returns-in-None c = span_uncut c.args.part.now c.begins.result c.in-None.ensures c.begins.ensures
