use Rattle.std.proofs.Common.{List, subst}
use Rattle.std.specs.List.{All}
use Rattle.vs_design.specs.declared.signal.Signal.{Signal}
use Rattle.vs_vcd_reader.specs.Outlined.{HasShortRanges}
use Rattle.vs_vcd_lines.specs.Lines.{IsRange}
use Rattle.vs_vcd_reader.proofs.RunReadLemmas.{text_of}
use Rattle.vs_vcd_reader.proofs.source_laws.outline_is_in_order.Goals as goal

pub returns : goal.returns
returns c =
    let d = c.args.design.now in
    let short : HasShortRanges d = subst (λ (xs : List Signal). All (λ (s : Signal). IsRange s.range) xs) c.signals.ensures c.bounds_are_short.ensures in
    λ bytes top defined. c.outlines_of_texts_are_in_order.ensures bytes top d (text_of bytes top d defined) short
