use Rattle.std.proofs.Common.{ℕ, ◌≤◌, ◌∙◌, subst, arith}
use Rattle.std.proofs.lemmas.List.{get_or_default}
use Rattle.vs_cert_blocks.proofs.early.greatest_of.Goals as goal

pub returns : goal.returns
returns c = λ x h. subst (λ (y : ℕ). y ≤ c.loop-x.greatest) (get_or_default c.args.xs.now h.0 0 x h.1 ∙ h.2) (c.loop-x.invariant h.0 (omega (arith, h.1)))
