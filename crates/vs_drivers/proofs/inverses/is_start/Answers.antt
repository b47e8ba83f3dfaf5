use Rattle.std.proofs.Common.{◌≡◌, true, false, not, sym, ◌∙◌, ap}
use Rattle.vs_drivers.proofs.CopyLemmas.{one_bit}
use Rattle.vs_drivers.proofs.InverseLemmas.{no_net, start_is, unset}
use Rattle.vs_drivers.proofs.inverses.is_start.Goals as goal

pub returns-then-is_plain : goal.returns-then-is_plain
returns-then-is_plain c =
    let d = c.args.design.now in
    let v = c.args.v in
    let one = (one_bit d v).0 (sym c.is_plain.ensures ∙ c.if-is_plain.true) in (
      λ t. (one, start_is d v one (λ k. let e : false ≡ true = sym (ap not (c.is_net.ensures.1 k)) ∙ t in cc)),
      λ s. unset c.is_net.result (λ e. no_net d v s.1 (c.is_net.ensures.0 e)),
    )
