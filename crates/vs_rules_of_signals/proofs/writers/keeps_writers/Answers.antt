use Rattle.std.proofs.Common.{refl}
use Rattle.vs_rules_of_signals.proofs.writers.keeps_writers.Goals as goal

pub returns : goal.returns
returns c = (
  λ h. record {
    named = c.if-not-are_named.ensures.0 refl;
    writer_writes = c.if-not-writer_writes.ensures.0 refl;
    second_writes = c.if-not-second_writes.ensures.0 refl;
    no_block = c.if-not-no_block.ensures.0 refl;
    early = c.if-not-is_early.ensures.0 refl;
    first_alone = c.if-not-first_alone.ensures.0 refl;
    first_alone_later = c.first_alone_later.ensures.0 h;
  },
  λ k. c.first_alone_later.ensures.1 k.first_alone_later,
)
