use Rattle.vs_elab_signals.proofs.SiteLemmas.{opened_at}
use Rattle.vs_elab_signals.proofs.SightLemmas.{here_is, seen_here, late_here, outward_here}
use Rattle.vs_elab_signals.proofs.sights.sight_here.Goals as goal

pub returns-in-Here-clause-sight : goal.returns-in-Here-clause-sight
returns-in-Here-clause-sight c ss s a h =
    let o = c.index-list-place.result in
    let e = (opened_at c.args.list.now ss a c.args.place o c.requires.place c.index-list-place.is s h).entered in
    let is = here_is ss o s c.args.piece c.args.name.now c.own_sight.result e c.own_sight.ensures in
    seen_here ss s c.args.place c.args.piece c.args.name.now c.own_sight.result is c.in-Here.is

pub returns-in-Late-clause-sight : goal.returns-in-Late-clause-sight
returns-in-Late-clause-sight c ss s a h =
    let o = c.index-list-place.result in
    let e = (opened_at c.args.list.now ss a c.args.place o c.requires.place c.index-list-place.is s h).entered in
    let is = here_is ss o s c.args.piece c.args.name.now c.own_sight.result e c.own_sight.ensures in
    late_here ss s c.args.place c.args.piece c.args.name.now c.own_sight.result is h c.in-Late.is

pub returns-in-Outward-clause-sight : goal.returns-in-Outward-clause-sight
returns-in-Outward-clause-sight c ss s a h =
    let o = c.index-list-place.result in
    let e = (opened_at c.args.list.now ss a c.args.place o c.requires.place c.index-list-place.is s h).entered in
    let is = here_is ss o s c.args.piece c.args.name.now c.own_sight.result e c.own_sight.ensures in
    outward_here ss s c.args.place c.args.piece c.args.name.now c.own_sight.result is c.in-Outward.is
