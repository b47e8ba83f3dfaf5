use Rattle.std.proofs.Common.{get_or, refl}
use Rattle.vs_vcd_lines.proofs.ChangeLemmas.{sizes_at}
use Rattle.vs_vcd_reader.proofs.BeginningLemmas.{value_tells}
use Rattle.vs_vcd_reader.proofs.parts.value_goes_on.Goals as goal

pub begins_change-requires-clause-some : goal.begins_change-requires-clause-some
begins_change-requires-clause-some c = (sizes_at c.args.widths.now c.args.number c.requires.sizes c.requires.within).0

pub begins_change-requires-clause-most : goal.begins_change-requires-clause-most
begins_change-requires-clause-most c = (sizes_at c.args.widths.now c.args.number c.requires.sizes c.requires.within).1

pub returns : goal.returns
returns c = λ vs size.
    value_tells c.args.widths.now vs c.args.number (get_or c.args.widths.now c.args.number 0) c.begins_change.result c.args.part.now c.requires.within size refl
    c.begins_change.ensures
