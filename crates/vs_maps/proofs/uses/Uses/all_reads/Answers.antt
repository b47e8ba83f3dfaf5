use Rattle.std.proofs.Common.{◌↔◌, ◌<◌, IsTrue, length, sym, subst}
use Rattle.vs_maps.specs.declared.sites.Use.TheVariants.{Reads}
use Rattle.vs_maps.specs.Texts.{Texts, AllReads}
use Rattle.vs_maps.proofs.SiteLemmas.{kept}
use Rattle.vs_maps.proofs.uses.Uses.all_reads.Goals as goal

pub of_signal-requires : goal.of_signal-requires
of_signal-requires g c = subst (λ (x : Texts). c.args.v < length x.design.signals) (sym c.self.view_is) c.requires

pub returns : goal.returns
returns g c =
    let k = kept c.self.inside.sites.charts c.args.v Reads (g.R.SiteRule.keeps c.args.rule.now) c.of_signal.result.now c.of_signal.ensures in
    subst (λ (x : Texts). (IsTrue c.all_keep.result ↔ AllReads x c.args.v (g.R.SiteRule.keeps c.args.rule.now))) c.self.view_is
    (λ t. k.0 (c.all_keep.ensures.0 t), λ a. c.all_keep.ensures.1 (k.1 a))
