use Rattle.std.proofs.Common.{◌≡◌, ◌↔◌, ◌<◌, List, length, sym, subst}
use Rattle.std.specs.List.{Contains}
use Rattle.vs_graph.specs.Rows.{row}
use Rattle.vs_maps.specs.Sites.{IsSite}
use Rattle.vs_maps.specs.Texts.{Texts}
use Rattle.vs_maps.specs.declared.sites.Site.{Site}
use Rattle.vs_maps.proofs.sites.Sites.of_signal.Goals as goal

pub returns : goal.returns
returns c s =
    let v = c.args.v in
    subst (λ (l : List Site). (Contains l s ↔ (IsSite c.args.self.now.charts s × (s.range.signal ≡ v)))) (sym c.row.ensures)
    (subst (λ (x : Texts). (v < length x.design.signals → (Contains (row c.self.inside.of_signals v) s ↔ (IsSite x.charts s × (s.range.signal ≡ v))))) c.self.view_is (c.self.invariant.of_signals v s) c.requires)
