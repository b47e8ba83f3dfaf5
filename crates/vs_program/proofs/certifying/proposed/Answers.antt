use Rattle.std.proofs.Common.{List, ℕ, refl, subst}
use Rattle.vs_sign_off.specs.vs_simulate.specs.Honesty.{Defines}
use Rattle.vs_program.proofs.certifying.proposed.Goals as goal

pub returns-then-is_too_long-clause-err : goal.returns-then-is_too_long-clause-err
returns-then-is_too_long-clause-err c = record {
  proposal = c.in_ok-proposal.proposal;
  proposed = record { design = c.in_ok-design.design; defined = subst (λ (t : List ℕ). Defines c.args.source.now t c.in_ok-design.design) c.as_bytes.ensures.value c.in_ok-design.ensures; proposal = c.in_ok-proposal.ensures.is };
  long = c.if-is_too_long.ensures.long refl;
}
