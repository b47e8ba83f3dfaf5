use Rattle.std.proofs.Common.{refl}
use Rattle.vs_program_words.proofs.options.race_list.Goals as goal

pub returns-clause-rules : goal.returns-clause-rules
returns-clause-rules c =
    rw (
      c.in_ok-list.ensures.items,
      c.top.ensures.option,
      c.until.ensures.option,
      c.steps.ensures.option,
      c.tries.ensures.option,
      c.seed.ensures.option,
      c.from.ensures.option,
      c.pair.ensures.option,
      c.rules.ensures.option,
    ) refl
