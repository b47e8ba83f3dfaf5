use Rattle.std.proofs.Common.{ℕ, ◌≤◌, arith}
use Rattle.vs_design.specs.vs_logic4.proofs.Basics.{all_do, one_not}
use Rattle.vs_cert_blocks.proofs.early.are_up_to.Goals as goal

pub returns-then-x-most : goal.returns-then-x-most
returns-then-x-most c = one_not (λ (x : ℕ). x ≤ c.args.most) c.args.xs.now c.loop-x.x-index (omega arith) (λ h. absurd (omega (arith, h, c.if-x-most.true)))

pub returns : goal.returns
returns c = all_do (λ (x : ℕ). x ≤ c.args.most) c.args.xs.now c.loop-x.x-index (omega arith) c.loop-x.invariant
