use Rattle.std.proofs.Common.{◌∙◌, ap}
use Rattle.std.specs.List.{list_any}
use Rattle.vs_design.specs.Uses.{is_of}
use Rattle.vs_rules.specs.Paths.{statement_later}
use Rattle.vs_maps.specs.Ranges.{ranges_of, later_at}
use Rattle.vs_maps.proofs.RangeLemmas.{has_signal}
use Rattle.vs_maps.proofs.tables.Tables.writes_later.Goals as goal

pub returns : goal.returns
returns c =
    has_signal (later_at c.args.self.now c.args.place) c.args.signal c.writes_later_of.result
    (c.writes_later_of.ensures ∙ ap (λ s. list_any (is_of c.args.signal) (ranges_of statement_later s)) c.statement.ensures)
