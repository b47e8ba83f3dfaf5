use Rattle.std.proofs.Common.{ℕ, ◌≤◌, ◌∙◌, subst, arith}
use Rattle.std.proofs.lemmas.List.{get_or_default}
use Rattle.vs_cert_blocks.proofs.early.least_of.Goals as goal

pub returns : goal.returns
returns c = record {
  few = c.loop-x.invariant.0;
  each = λ x h. subst (λ (y : ℕ). c.loop-x.least ≤ y) (get_or_default c.args.xs.now h.0 0 x h.1 ∙ h.2) (c.loop-x.invariant.1 h.0 (omega (arith, h.1)));
}
