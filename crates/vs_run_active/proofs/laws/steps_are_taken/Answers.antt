use Rattle.vs_run_active.proofs.TakenLemmas.{left_call, left_finish, left_line, left_nothing, left_update, left_write, taken_more, taken_none}
use Rattle.vs_run_active.proofs.laws.steps_are_taken.Goals as goal

pub returns : goal.returns
returns c = record {
  none = taken_none;
  more = taken_more;
  leave = λ u i next. record {
    nothing = left_nothing u i next;
    write = left_write u i next;
    update = left_update u i next;
    line = left_line u i next;
    call = left_call u i next;
    finish = left_finish u i next;
  };
}
