use Rattle.std.proofs.Common.{◌++◌, List, map, ◌∙◌, ap}
use Rattle.vs_design.specs.declared.range.BitRange.{BitRange}
use Rattle.vs_design.specs.declared.statement.EventTerm.{EventTerm}
use Rattle.vs_maps.specs.Ranges.{pause_terms}
use Rattle.vs_maps.specs.Sites.{site_of, waiting_of}
use Rattle.vs_maps.specs.declared.sites.Use.TheVariants.{Now, Later, Reads, Shows}
use Rattle.vs_maps.proofs.SiteLemmas.{placed}
use Rattle.vs_maps.proofs.sites.push_place.Goals as goal

pub returns : goal.returns
returns c =
    let t = c.args.tables.now in
    let i = c.args.process in
    let p = c.args.place in
    let old = c.args.sites.now.items in
    let a = c.push_ranges.new.sites.items in
    let b = c.push_ranges-2.new.sites.items in
    let d = c.push_ranges-3.new.sites.items in
    let e = c.push_ranges-4.new.sites.items in
    placed t i p old a b d e c.push_terms.new.sites.items
    (c.in_ok-push_ranges.ensures ∙ ap (λ (l : List BitRange). old ++ map (site_of i p Now) l) (c.deref.ensures.value ∙ c.in_ok-now.ensures))
    (c.in_ok-push_ranges-2.ensures ∙ ap (λ (l : List BitRange). a ++ map (site_of i p Later) l) (c.deref-2.ensures.value ∙ c.in_ok-later.ensures))
    (c.in_ok-push_ranges-3.ensures ∙ ap (λ (l : List BitRange). b ++ map (site_of i p Reads) l) (c.deref-3.ensures.value ∙ c.in_ok-reads.ensures))
    (c.in_ok-push_ranges-4.ensures ∙ ap (λ (l : List BitRange). d ++ map (site_of i p Shows) l) (c.deref-4.ensures.value ∙ c.in_ok-shows.ensures))
    (c.in_ok-push_terms.ensures ∙ ap (λ (l : List EventTerm). e ++ map (waiting_of i p) l) (c.pause_terms.ensures ∙ ap pause_terms c.pause.ensures))
