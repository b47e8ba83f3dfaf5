use Rattle.vs_maps.proofs.SiteLemmas.{HaveSites}
use Rattle.vs_maps.proofs.sites.sites_of.Given as goal

abbrev pub invariant-loop-place : goal.invariant-loop-place
invariant-loop-place l = HaveSites l.all.items l.process l.tables l.place
