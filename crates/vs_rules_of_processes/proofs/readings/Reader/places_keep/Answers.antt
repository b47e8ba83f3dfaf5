use Rattle.std.proofs.Common.{ℕ, refl, sym, ◌∙◌, arith, below_more as next_below}
use Rattle.std.proofs.lemmas.Bool.{false≢true}
use Rattle.vs_claims.specs.vs_maps.specs.Reaches.{IsPlace}
use Rattle.vs_rules_of_processes.specs.ReadingPlaces.{MayReadAt}
use Rattle.vs_rules_of_processes.proofs.readings.Reader.places_keep.Goals as goal

pub returns-then-not-kept : goal.returns-then-not-kept
returns-then-not-kept c = (λ h. absurd (false≢true h), λ h. sym c.if-not-kept.true ∙ c.in_ok-kept.ensures.1 (λ place. h c.loop-place.place place))

pub loop-place-preserved : goal.loop-place-preserved
loop-place-preserved c =
    let f = c.args.self.now.slots.now in
    let t = c.args.self.now.tables.now in
    next_below (λ (p : ℕ). IsPlace t p → MayReadAt f.design f.claims c.args.self.now.process t p) c.loop-place.place c.loop-place.invariant
    (λ place. c.in_ok-kept.ensures.0 c.if-not-kept.false place)

pub returns : goal.returns
returns c = (
  λ h p place. c.loop-place.invariant p (omega (arith, c.loop-place-test.false, c.places-place-end.ensures, c.leads_in.ensures.points p place)) place,
  λ h. refl,
)
