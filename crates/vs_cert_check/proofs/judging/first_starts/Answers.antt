use Rattle.std.proofs.Common.{ℕ, List, length, ◌<◌, sym, ap, subst, ◌∙◌, arith}
use Rattle.std.specs.List.{All}
use Rattle.vs_independence.proofs.Keeps.{assigns_named, blocks_kept, order_kept}
use Rattle.vs_rules_of_signals.specs.vs_claims.specs.Facts.{Case}
use Rattle.vs_rules_of_starts.specs.vs_rules.specs.Drivers.{Driver}
use Rattle.vs_rules_of_starts.specs.vs_rules.specs.Rules.{K1_Assign, K4}
use Rattle.vs_rules_of_starts.specs.vs_rules.specs.Verdict.{numbers}
use Rattle.vs_cert_check.specs.Broken.{FirstBroken}
use Rattle.vs_cert_check.specs.Verdicts.{KeepsAt}
use Rattle.vs_cert_check.proofs.Judged.{kept_all}
use Rattle.vs_cert_check.proofs.judging.first_starts.Goals as goal

pub in_order-requires-clause-listed : goal.in_order-requires-clause-listed
in_order-requires-clause-listed c =
    let k = c.args.sheet.now in
    subst (λ (x : Case). (j : ℕ) → K1_Assign x.design x.claims j) (sym c.sheet.view_is)
    (assigns_named k.design k.claims (kept_all k.design k.claims 10 0 c.requires (omega arith)))

pub in_order-requires-clause-ordered : goal.in_order-requires-clause-ordered
in_order-requires-clause-ordered c =
    let k = c.args.sheet.now in
    subst (λ (x : Case). (e : Driver) → K4 x.design x.claims e) (sym c.sheet.view_is)
    (order_kept k.design k.claims (kept_all k.design k.claims 10 3 c.requires (omega arith)))

pub of-requires : goal.of-requires
of-requires c = c.sheet.invariant.cones_are

pub invariant_of-starts-clause-blocks : goal.invariant_of-starts-clause-blocks
invariant_of-starts-clause-blocks c =
    let k = c.args.sheet.now in
    λ i no. no (blocks_kept k.design k.claims (kept_all k.design k.claims 10 4 c.requires (omega arith)) i)

pub returns-clause-first : goal.returns-clause-first
returns-clause-first c =
    let k = c.args.sheet.now in
    subst (λ (n : ℕ). FirstBroken (KeepsAt k.design k.claims 10) c.args.most (numbers 0 n) c.in_ok-found.found.items) c.count.ensures c.in_ok-found.ensures.first

pub returns-clause-within : goal.returns-clause-within
returns-clause-within c = subst (λ (n : ℕ). All (λ (i : ℕ). i < n) c.in_ok-found.found.items) c.count.ensures c.in_ok-found.ensures.within
