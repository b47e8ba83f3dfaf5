use Rattle.std.proofs.Common.{◌≡◌, length, ap, sym, ◌∙◌, refl, arith}
use Rattle.vs_run_active.specs.vs_process.specs.States.{start_assign}
use Rattle.vs_run_active.specs.ListCounts.{count}
use Rattle.vs_run_active.specs.Touches.{is_left}
use Rattle.vs_run_active.proofs.ListCountLemmas.{count_start}
use Rattle.vs_run_active.proofs.assigns.Assigns.start.Goals as goal

pub invariant_of-result : goal.invariant_of-result
invariant_of-result c =
    let size : c.len-left.result ≡ length c.in_ok-items.items.items = omega (arith, c.len-left.ensures, c.in_ok-items.items.ok.0) in
    size ∙ ap length c.in_ok-items.ensures ∙ count_start is_left start_assign (λ a. refl) c.args.assigns.now ∙ sym (ap (count is_left) c.in_ok-items.ensures)
