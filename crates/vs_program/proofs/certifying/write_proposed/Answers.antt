use Rattle.std.proofs.Common.{ap, refl}
use Rattle.std.proofs.KnownBytes.{Keeps-refl}
use Rattle.vs_program.proofs.Proposing.{line_there}
use Rattle.vs_program.proofs.certifying.write_proposed.Goals as goal

pub returns-in-Made : goal.returns-in-Made
returns-in-Made g c =
    let wrote = c.write_whole-whole.ensures in (
      wrote.0,
      wrote.1,
      rw c.in-Made.is (
        line_there _ _ _ _ _ _ wrote.0 (ap g.F.OutputFile.bytes c.new.ensures.file) c.into_inner-text.ensures c.deref.ensures.value wrote.2,
        Keeps-refl _,
        Keeps-refl _,
      ),
    )

pub returns-in-NotMade : goal.returns-in-NotMade
returns-in-NotMade g c =
    let wrote = c.write_whole-whole-in-NotMade.ensures in (
      wrote.0,
      wrote.1,
      rw c.in-NotMade.is (line_there _ _ _ _ _ _ wrote.0 refl refl c.deref-in-NotMade.ensures.value wrote.2, Keeps-refl _, Keeps-refl _),
    )
