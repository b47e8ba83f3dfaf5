use Rattle.std.proofs.Common.{sym, ◌∙◌}
use Rattle.std.proofs.lemmas.Bool.{false≢true}
use Rattle.vs_rules_of_signals.proofs.OrderLemmas.{known_by}
use Rattle.vs_rules_of_signals.proofs.order.is_known.Goals as goal

pub returns : goal.returns
returns c =
    known_by c.args.design.now c.args.row.now c.deref.result.now c.args.is_source c.args.range c.covers.result
    (c.deref.ensures.value ∙ c.in_ok-ranges.ensures) (λ h. false≢true (sym c.if-is_net.false ∙ c.is_net.ensures.1 h)) c.if-is_source.false c.covers.ensures
