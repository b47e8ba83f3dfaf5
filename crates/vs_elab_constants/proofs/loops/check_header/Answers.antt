use Rattle.vs_widths.specs.Names.{meaning_of}
use Rattle.vs_elab_constants.proofs.TurnsLemmas.{header_known}
use Rattle.vs_elab_constants.proofs.loops.check_header.Goals as goal

pub returns-then-is_same : goal.returns-then-is_same
returns-then-is_same c =
    header_known (meaning_of c.args.names.now) c.args.header.now c.find.result c.deref.result.now c.deref-2.result.now c.deref-3.result.now c.is_same.result c.find.ensures c.deref.ensures.value c.in_ok-check_genvar.ensures c.is_same.ensures
    c.deref-2.ensures.value c.deref-3.ensures.value c.if-is_same.true
