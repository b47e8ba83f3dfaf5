use Rattle.std.proofs.Common.{◌≡◌, ℕ, refl, sym}
use Rattle.std.specs.List.{Contains}
use Rattle.vs_rules_of_processes.proofs.PairLemmas.{all_in, one_more, one_out}
use Rattle.vs_rules_of_processes.proofs.lists.are_same.Goals as goal

pub returns-then-not-all_are : goal.returns-then-not-all_are
returns-then-not-all_are c =
    one_out (λ (x : ℕ). (y : ℕ) → Contains c.args.b.now y → x ≡ y) c.args.a.now c.loop-x.x-index 0 c.loop-x-test.true
    (λ h. c.if-not-all_are.ensures.1 (λ y m. sym (h y m)))

pub loop-x-preserved : goal.loop-x-preserved
loop-x-preserved c =
    one_more (λ (x : ℕ). (y : ℕ) → Contains c.args.b.now y → x ≡ y) c.args.a.now c.loop-x.x-index 0 c.loop-x-test.true c.loop-x.invariant
    (λ y m. sym (c.if-not-all_are.ensures.0 refl y m))

pub returns : goal.returns
returns c = all_in (λ (x : ℕ). (y : ℕ) → Contains c.args.b.now y → x ≡ y) c.args.a.now c.loop-x.x-index c.loop-x-test.false c.loop-x.invariant
