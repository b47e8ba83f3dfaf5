use Rattle.std.proofs.Common.{[], arith}
use Rattle.vs_widths.specs.Names.{meaning_of}
use Rattle.vs_widths.specs.Expressions.{meant}
use Rattle.vs_elab_constants.proofs.ValueLemmas.{shaped_is}
use Rattle.vs_elab_constants.proofs.evaluating.shaped.Goals as goal

pub returns-clause-ok : goal.returns-clause-ok
returns-clause-ok c =
    rw c.new.ensures (shaped_is (meant (meaning_of c.args.names.now) c.args.e.now) c.args.size c.in_ok-found.found.width c.max-width.result c.in_ok-found.found.signed c.in_ok-value.value c.resize-value.result
    c.in_ok-value.ensures.constant.sound c.in_ok-found.ensures.shape (omega (arith, c.max-width.ensures)) (c.in_ok-value.ensures.constant.value []) c.in_ok-value.ensures.constant.length_is c.resize-value.ensures)
