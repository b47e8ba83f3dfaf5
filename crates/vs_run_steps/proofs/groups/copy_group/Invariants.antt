use Rattle.std.proofs.Common.{◌≡◌, ◌<◌}
use Rattle.vs_run_active.specs.vs_process.specs.declared.moves.Move.TheVariants.{Evaluate}
use Rattle.vs_run_steps.specs.Runs.{state_of}
use Rattle.vs_run_steps.specs.Members.{members_in}
use Rattle.vs_run_steps.specs.MembersMade.{AreDone, HasBegun}
use Rattle.vs_run_steps.proofs.groups.copy_group.Given as goal

abbrev pub invariant-loop-i : goal.invariant-loop-i
invariant-loop-i g l =
    record {
      done : AreDone l.forms l.limit l.fn.run l.taken l.run;
      start : l.i ≡ 0 → l.run ≡ l.fn.run;
      begun : 0 < l.i → HasBegun (members_in l.fn.run.watched.tables l.group) Evaluate (state_of l.fn.run) l.taken;
    }
