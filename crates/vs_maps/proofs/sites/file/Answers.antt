use Rattle.std.proofs.Common.{refl}
use Rattle.vs_design.proofs.LoopLemmas.{went_on, went_through}
use Rattle.vs_graph.specs.Rows.{with_one}
use Rattle.vs_maps.specs.Sites.{all_filed}
use Rattle.vs_maps.specs.declared.sites.Site.{Site}
use Rattle.vs_maps.proofs.sites.file.Goals as goal

pub loop-site-preserved : goal.loop-site-preserved
loop-site-preserved c =
    went_on all_filed (λ (s : Site) table. with_one s.range.signal s table) (λ s rest table. refl) c.args.sites.now c.loop-site.site-index _ _
    c.loop-site.rows c.put.new.self _ c.loop-site-test.true refl c.in_ok-put.ensures c.loop-site.invariant

pub returns : goal.returns
returns c = went_through all_filed (λ table. refl) c.args.sites.now c.loop-site.site-index c.loop-site.rows _ c.loop-site-test.false c.loop-site.invariant
