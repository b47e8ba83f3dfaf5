use Rattle.std.proofs.Common.{◌≡◌, ℕ, Some, List, length, ap}
use Rattle.vs_design.specs.declared.signal.Signal.{Signal}
use Rattle.vs_maps.specs.vs_graph.specs.Rows.{AreRows}
use Rattle.vs_drivers.specs.Copies.{source_in}
use Rattle.vs_drivers.specs.Inverses.{AreBack}
use Rattle.vs_drivers.proofs.InverseLemmas.{back_is, both}
use Rattle.vs_drivers.proofs.inverses.rows_of.Goals as goal

pub returns : goal.returns
returns c turned are =
    let n = length c.signals-count.result.now in
    let S = c.args.sources.now in
    both c.index_of.result (λ (table : List (List ℕ)). length table ≡ n) (AreRows (λ v u. source_in S v ≡ Some u) n n) (AreBack c.args.design.now turned)
    (λ table long rows. back_is c.args.design.now turned n S table (ap (λ (ss : List Signal). length ss) c.signals-count.ensures) are long rows)
    c.index_of.ensures.len c.index_of.ensures.exact
