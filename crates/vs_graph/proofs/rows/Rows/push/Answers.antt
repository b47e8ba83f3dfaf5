use Rattle.std.proofs.Common.{◌∷◌, ◌++◌, [], ◌∙◌, ap}
use Rattle.vs_graph.proofs.RowLemmas.{row_more}
use Rattle.vs_graph.proofs.rows.Rows.push.Goals as goal

pub returns : goal.returns
returns g c =
    row_more c.self.inside.all.items c.push.new.self.items c.args.row c.in_ok-push.ensures.items ∙ ap (λ table. table ++ c.args.row.items ∷ []) c.self.view_is
