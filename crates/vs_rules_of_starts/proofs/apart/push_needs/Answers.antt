use Rattle.std.proofs.Common.{refl}
use Rattle.vs_rules_of_starts.proofs.StartLemmas.{cold_more, false_not, not_cold}
use Rattle.vs_rules_of_starts.proofs.apart.push_needs.Goals as goal

pub returns-then-not-has_cold : goal.returns-then-not-has_cold
returns-then-not-has_cold c =
    not_cold c.args.facts.now.design c.args.facts.now.claims c.args.i c.args.out.now.items (λ has. false_not (c.if-not-has_cold.ensures.1 has))

pub returns : goal.returns
returns c =
    let k = c.args.facts.now in
    cold_more k.design k.claims c.args.i c.args.out.now.items c.block_needs.result.now c.extend_from_slice.new.self.items (c.if-not-has_cold.ensures.0 refl)
    c.in_ok-extend_from_slice.ensures.items (c.block_needs.ensures k.design k.claims c.requires)
