use Rattle.std.proofs.Common.{◌∙◌, ap, sym}
use Rattle.vs_program.proofs.Ends.{here_as}
use Rattle.vs_program.proofs.command.answer_in_file.Goals as goal

pub returns-clause-ends : goal.returns-clause-ends
returns-clause-ends g c =
    here_as _ _ _ _ _ _ _ _ _ _ _ _ _ (ap g.F.OutputFile.bytes c.new-file.ensures.file)
    (sym (ap g.F.OutputFile.bytes c.writers_of.ensures.text ∙ c.into_inner.ensures)) c.late_dumps-dumps.ensures (sym c.writers_of.ensures.dump)
    c.write_kept-status.ensures
