use Rattle.std.proofs.Common.{arith}
use Rattle.vs_maps.specs.declared.along.Along.TheVariants.{ZeroTime}
use Rattle.vs_maps.proofs.WalkLemmas.{start_walked}
use Rattle.vs_claims.proofs.facts.is_early.Goals as goal

pub returns-else-p-places : goal.returns-else-p-places
returns-else-p-places c =
    let t = c.args.tables.now in
    let p = c.args.p in
    (λ h. absurd (cc), λ h. let l = c.leads_in.ensures.points p (start_walked t (ZeroTime c.args.wide) p h) in absurd (omega (arith, l, c.places.ensures, c.if-p-places.false)))
