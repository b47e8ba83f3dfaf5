use Rattle.std.proofs.Common.{◌∙◌, sym}
use Rattle.vs_run_steps.specs.Runs.{state_of}
use Rattle.vs_kernel.proofs.LeavingLemmas.{ends_none, time_told}
use Rattle.vs_kernel.proofs.moves.end_slot.Goals as goal

pub advance-requires-clause-next : goal.advance-requires-clause-next
advance-requires-clause-next g c =
    sym (time_told c.args.run.now.design.now c.args.run.now c.next_time.result c.requires.run c.next_time.ensures.least) ∙ c.in-Some.is

pub stop-requires-in-None-clause-ends : goal.stop-requires-in-None-clause-ends
stop-requires-in-None-clause-ends g c =
    ends_none (state_of c.args.run.now) c.if-run.false (sym (time_told c.args.run.now.design.now c.args.run.now c.next_time.result c.requires.run c.next_time.ensures.least) ∙ c.in-None.is)
