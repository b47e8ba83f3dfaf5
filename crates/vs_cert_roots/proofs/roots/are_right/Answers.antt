use Rattle.std.proofs.Common.{ℕ, IsTrue, arith, rules}
use Rattle.vs_design.specs.vs_logic4.proofs.Basics.{all_do}
use Rattle.vs_cert_roots.specs.Roots.{IsRight}
use Rattle.vs_rules_of_signals.proofs.ListLemmas.{further}
use Rattle.vs_cert_roots.proofs.roots.are_right.Goals as goal

pub loop-root-preserved : goal.loop-root-preserved
loop-root-preserved c =
    let F = c.args.facts.now in
    let t : IsTrue c.in_ok-is_right.field-0 = search rules in
    further (λ (r : ℕ). IsRight F.design F.claims c.args.v r) c.args.roots.now c.loop-root.root-index c.loop-root.invariant (c.in_ok-is_right.ensures.0 t)

pub returns : goal.returns
returns c =
    let F = c.args.facts.now in
    all_do (λ (r : ℕ). IsRight F.design F.claims c.args.v r) c.args.roots.now c.loop-root.root-index (omega arith) c.loop-root.invariant
