use Rattle.std.proofs.Common.{◌∙◌, ap}
use Rattle.std.proofs.KnownBytes.{Keeps-trans}
use Rattle.vs_outputs.specs.Buffers.{writer_of}
use Rattle.vs_program.proofs.command.give_up.Goals as goal

pub returns-clause-refused : goal.returns-clause-refused
returns-clause-refused g c = λ refused.
    let same = c.write_left.ensures.refused refused in
    let left = c.into_inner-out.ensures in (
      ap g.O.Write.contents (left.text ∙ ap (λ b. writer_of b.text) same),
      ap g.D.Write.contents (left.file ∙ ap (λ b. writer_of b.dumps.first) same),
    )

pub returns-clause-begun : goal.returns-clause-begun
returns-clause-begun g c =
    let left = c.into_inner-out.ensures in (
      left.lost.0,
      left.cut.0,
      Keeps-trans _ _ _ c.write_left.ensures.text left.lost.1,
      Keeps-trans _ _ _ c.write_left.ensures.dump left.cut.1,
    )
