use Rattle.std.proofs.Common.{ℕ, false, refl, slice_index_or, IsTrue}
use Rattle.vs_rules.specs.Claims.{HasStart, starter}
use Rattle.vs_claims.proofs.RootLemmas.{none_more as more_below}
use Rattle.vs_rules_of_starts.proofs.StartLemmas.{false_not, none_marked, one_marked}
use Rattle.vs_rules_of_starts.proofs.starts.no_starter_in.Goals as goal

pub loop-j-preserved : goal.loop-j-preserved
loop-j-preserved c =
    more_below (λ (k : ℕ). IsTrue (slice_index_or c.args.marks.now k false) × HasStart c.args.facts.now.design c.args.facts.now.claims k starter) c.loop-j.j c.loop-j.invariant
    (λ h. false_not (c.if-is_passed.ensures.1 h))

pub returns-then-is_passed : goal.returns-then-is_passed
returns-then-is_passed c = one_marked c.args.facts.now.design c.args.facts.now.claims c.args.marks.now c.loop-j.j (c.if-is_passed.ensures.0 refl)

pub returns : goal.returns
returns c = none_marked c.args.facts.now.design c.args.facts.now.claims c.args.marks.now c.loop-j.j c.loop-j-test.false c.loop-j.invariant
