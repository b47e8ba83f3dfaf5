use Rattle.std.proofs.Common.{refl}
use Rattle.vs_program_words.proofs.options.run_list.Goals as goal

pub returns-clause-rules : goal.returns-clause-rules
returns-clause-rules c =
    rw (
      c.in_ok-list.ensures.items,
      c.top.ensures.option,
      c.until.ensures.option,
      c.steps.ensures.option,
      c.policy.ensures.option,
      c.choice-out.ensures.option,
      c.file-dump.ensures.option,
      c.flag-cert.ensures.option,
      c.certificate.ensures.option,
      c.rules.ensures.option,
    ) refl
