use Rattle.std.proofs.Common.{subst, sym}
use Rattle.vs_design.specs.Parts.{Parts}
use Rattle.vs_run_steps.specs.Runs.{IsRunOf}
use Rattle.vs_race_pair.proofs.course.log_under.Goals as goal

pub run_to-requires : goal.run_to-requires
run_to-requires c = subst (λ (d : Parts). IsRunOf d c.order_of.new.run) (sym c.in_ok-forms.ensures) c.in_ok-order.ensures
