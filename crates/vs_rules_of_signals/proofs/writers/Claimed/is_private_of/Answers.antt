use Rattle.std.proofs.Common.{refl}
use Rattle.vs_rules_of_signals.proofs.writers.Claimed.is_private_of.Goals as goal

pub returns : goal.returns
returns c = (
  λ h. record {
    processes = c.if-not-is_only_reader.ensures.0 refl;
    assigns = c.if-not-no_assign_reads.ensures.0 refl;
    terms = c.no_term_names.ensures.0 h;
  },
  λ p. c.no_term_names.ensures.1 p.terms,
)
