use Rattle.std.proofs.Common.{ap, refl, sym}
use Rattle.vs_program.proofs.Ends.{here_as}
use Rattle.vs_program.proofs.command.answer_shown.Goals as goal

pub returns-clause-ends : goal.returns-clause-ends
returns-clause-ends g c =
    here_as _ _ _ _ _ _ _ _ _ _ _ _ _ refl (sym (ap g.O.Write.contents c.writers_of.ensures.out)) c.late_dumps-dumps.ensures (sym c.writers_of.ensures.dump)
    c.write_kept-status.ensures
