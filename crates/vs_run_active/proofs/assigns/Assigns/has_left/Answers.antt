use Rattle.std.proofs.Common.{nat_lt, ap, ◌∙◌}
use Rattle.std.specs.List.{list_any}
use Rattle.vs_run_active.specs.Touches.{is_left}
use Rattle.vs_run_active.proofs.ListCountLemmas.{count_any}
use Rattle.vs_run_active.proofs.assigns.Assigns.has_left.Goals as goal

pub returns : goal.returns
returns c = ap (nat_lt 0) c.self.invariant ∙ count_any is_left c.self.inside.items.items ∙ ap (list_any is_left) c.self.view_is
