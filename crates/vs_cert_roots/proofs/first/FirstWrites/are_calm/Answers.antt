use Rattle.std.proofs.Common.{ℕ, refl, arith}
use Rattle.vs_design.specs.vs_logic4.proofs.Basics.{all_do, one_not}
use Rattle.vs_cert_roots.specs.First.{WakesEntry}
use Rattle.vs_rules_of_signals.proofs.ListLemmas.{further}
use Rattle.vs_cert_roots.proofs.first.FirstWrites.are_calm.Goals as goal

pub loop-place-preserved : goal.loop-place-preserved
loop-place-preserved c =
    let K = c.args.self.now in
    further (λ (p : ℕ). WakesEntry K.design K.claims c.args.writer p c.args.root c.args.digit → ⊥) c.args.places.now c.loop-place.place-index c.loop-place.invariant (c.if-not-is_calm.ensures.0 refl)

pub returns-then-not-is_calm : goal.returns-then-not-is_calm
returns-then-not-is_calm c =
    let K = c.args.self.now in
    one_not (λ (p : ℕ). WakesEntry K.design K.claims c.args.writer p c.args.root c.args.digit → ⊥) c.args.places.now c.loop-place.place-index (omega arith) (λ p. c.if-not-is_calm.ensures.1 p)

pub returns : goal.returns
returns c =
    let K = c.args.self.now in
    all_do (λ (p : ℕ). WakesEntry K.design K.claims c.args.writer p c.args.root c.args.digit → ⊥) c.args.places.now c.loop-place.place-index (omega arith) c.loop-place.invariant
