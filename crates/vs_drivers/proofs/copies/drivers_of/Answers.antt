use Rattle.std.proofs.Common.{List, length, subst}
use Rattle.std.specs.Result.{IfOk}
use Rattle.vs_design.specs.declared.design.Assign.{Assign}
use Rattle.vs_design.specs.declared.signal.Signal.{Signal}
use Rattle.vs_maps.specs.vs_graph.specs.Rows.{AreRows}
use Rattle.vs_drivers.specs.Copies.{NamesTarget}
use Rattle.vs_drivers.proofs.copies.drivers_of.Goals as goal

pub returns : goal.returns
returns c =
    let d = c.args.design.now in
    subst (λ (as' : List Assign). IfOk c.index_of.result (λ drivers. AreRows (NamesTarget d) (length as') (length d.signals) drivers)) c.assigns-assigns.ensures
    (subst (λ (ss : List Signal). IfOk c.index_of.result (λ drivers. AreRows (NamesTarget d) (length c.assigns-assigns.result.now) (length ss) drivers)) c.signals.ensures
    c.index_of.ensures.exact)
