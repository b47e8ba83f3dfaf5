use Rattle.std.proofs.Common.{◌≡◌, ◌∙◌, ℕ, List, ap}
use Rattle.vs_process.specs.Codes.{todo_in}
use Rattle.vs_process.proofs.Drafts.{none_ok, on_err}
use Rattle.vs_process.proofs.cursor.Cursor.step.Goals as goal

pub returns-in_err-halt : goal.returns-in_err-halt
returns-in_err-halt c =
    let kept : todo_in c.self.inside.ops.now c.step.new.counters.items c.self.inside.place ≡ c.args.self.now =
    ap (λ (cs : List ℕ). todo_in c.self.inside.ops.now cs c.self.inside.place) c.in_err-halt.ensures.counters_kept ∙ c.self.view_is
    in
    record {
      next = none_ok _ _ c.from_residual.result c.from_residual.ensures.1;
      store = none_ok _ _ c.from_residual.result c.from_residual.ensures.1;
      place_kept = on_err _ c.from_residual.result kept;
      store_kept = on_err _ c.from_residual.result c.in_err-halt.ensures.store_kept;
    }
