use Rattle.std.proofs.Common.{ℕ, arith}
use Rattle.vs_maps.specs.declared.sites.Site.{Site}
use Rattle.vs_slots.specs.Kept.{IsSiteWrite}
use Rattle.vs_slots.proofs.KeptLemmas.{listed_at}
use Rattle.vs_slots.proofs.slots.PlaceWritesListing.list.Goals as goal

pub returns : goal.returns
returns c =
    let s = c.args.self.now in
    listed_at (λ (q : Site) (r : ℕ). IsSiteWrite s.delays.now s.edges.now s.writer q r) s.sites.now c.args.i _ c.at.result
    (omega (arith, c.if-i-self.false)) c.at.ensures
