use Rattle.std.specs.Prelude.{Some}
use Rattle.vs_program.proofs.Ends.{ends_begun}
use Rattle.vs_program.proofs.command.program.Goals as goal

pub returns : goal.returns
returns g c =
    let left = c.program_on-status.result.1 in (
      Some left.text.bytes.items,
      Some left.dump.bytes.items,
      ends_begun _ _ _ c.new-text.result.bytes.items c.new-dump.result.bytes.items _ _ c.new-text.ensures c.new-dump.ensures c.program_on-status.ensures,
    )
