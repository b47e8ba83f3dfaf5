use Rattle.std.proofs.Common.{sym, subst}
use Rattle.vs_widths.specs.select_passes.Places.{selects_meaning, Extends}
use Rattle.vs_widths.proofs.ExcerptLemmas.{constant_span_is}
use Rattle.vs_widths.proofs.places.bits_of_constant.Goals as goal

pub returns : goal.returns
returns c = subst (λ z. Extends z c.bits_of.result) (sym (constant_span_is c.args.constant c.shape.result (selects_meaning c.args.selects.items) c.shape.ensures.width c.shape.ensures.sign)) c.bits_of.ensures
