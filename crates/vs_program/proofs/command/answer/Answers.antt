use Rattle.vs_program.specs.Ends.{IsKeptBeside, by_device}
use Rattle.vs_program.proofs.Ends.{ends_as, keeps_all}
use Rattle.vs_program.proofs.command.answer.Goals as goal

pub returns-in-Ok : goal.returns-in-Ok
returns-in-Ok g c =
    let call = c.args.call.now in
    ends_as (IsKeptBeside call.certificate call.subcommand (g.R.Read.remaining c.args.input)) _ _ _ _ _ _ _ c.in-Ok.ensures c.answer_kept.ensures

pub returns-in-Err : goal.returns-in-Err
returns-in-Err g c = by_device (keeps_all _) c.tell_input.ensures
