use Rattle.std.proofs.Common.{◌≡◌, ℕ, ◌↔◌, Bool, Some, sym, subst}
use Rattle.std.proofs.lemmas.Result.{IfOk-weaker}
use Rattle.vs_design.specs.Parts.{Parts}
use Rattle.vs_design.specs.vs_logic4.specs.declared.digit.Digit.{Digit}
use Rattle.vs_maps.specs.vs_rules.specs.Claims.{is_wide}
use Rattle.vs_slots_constants.specs.Clocks.{IsClockBy, IsSetBy}
use Rattle.vs_slots_constants.proofs.OtherLemmas.{clocks_by_writers}
use Rattle.vs_slots.specs.Kept.{IsClockOf}
use Rattle.vs_slots.proofs.clocks.clock_by.Goals as goal

pub returns : goal.returns
returns c =
    let f = c.args.facts.now in
    let v = c.args.v in
    let w = c.writer-writer.result in
    IfOk-weaker c.clock_of.result
    (λ o. (digit : Digit) (offset half : ℕ) →
    (IsClockBy c.design.result.now c.is_wide.result v w digit offset half ↔ o ≡ Some (record { digit = digit; offset = offset; half = half })))
    (λ o. IsClockOf f v o)
    (λ o h digit offset half.
    let both = subst (λ (wide : Bool). (IsClockBy f.design wide v w digit offset half ↔ o ≡ Some (record { digit = digit; offset = offset; half = half }))) c.is_wide.ensures
    (subst (λ (d : Parts). (IsClockBy d c.is_wide.result v w digit offset half ↔ o ≡ Some (record { digit = digit; offset = offset; half = half }))) c.design.ensures
    (h digit offset half)) in
    let by = clocks_by_writers f.design f.claims v w c.writer-writer.ensures digit offset half in
    (λ k. both.0 (by.1 k), λ e. by.0 (both.1 e)))
    c.clock_of.ensures

pub clock_of-requires-clause-set : goal.clock_of-requires-clause-set
clock_of-requires-clause-set c =
    let f = c.args.facts.now in
    subst (λ (wide : Bool). (i : ℕ) → c.writer-writer.result ≡ Some i → IsSetBy c.design.result.now wide c.args.v i c.args.writers.now c.in_ok-set.set) (sym c.is_wide.ensures)
    (subst (λ (d : Parts). (i : ℕ) → c.writer-writer.result ≡ Some i → IsSetBy d (is_wide f.claims) c.args.v i c.args.writers.now c.in_ok-set.set) (sym c.design.ensures) c.in_ok-set.ensures)
