use Rattle.std.proofs.lemmas.Result.{IfOk-weaker}
use Rattle.vs_program_words.proofs.Commands.{no_globals}
use Rattle.vs_program_words.proofs.options.with_command.Goals as goal

pub returns : goal.returns
returns c =
    let was = c.in_ok-made.was in
    IfOk-weaker c.subcommand.result _ _ (λ r h. rw was (h.shape (no_globals _ _ _ _ (rw was at c.requires)))) c.subcommand.ensures
