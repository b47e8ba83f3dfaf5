use Rattle.std.proofs.Common.{[], drop, refl}
use Rattle.std.proofs.lemmas.Bool.{false≢true}
use Rattle.vs_program.proofs.Proposing.{line_part, line_whole}
use Rattle.vs_program.proofs.telling.write_whole.Goals as goal

pub returns-in-Ok : goal.returns-in-Ok
returns-in-Ok g c = ([], λ _. refl, line_whole _ _ _ _ c.args.text.now c.new-shown.ensures.bytes c.into_inner.ensures c.in-Ok.ensures.ok)

pub returns-in-Err : goal.returns-in-Err
returns-in-Err g c =
    let part = c.in-Err.ensures.err in
    (drop part.0 c.args.text.now, λ e. absurd (false≢true e), line_part _ _ _ _ c.args.text.now c.new-shown.ensures.bytes c.into_inner-in-Err.ensures part)
