use Rattle.std.proofs.Common.{◌≡◌, ℕ, ◌+◌, ◌<◌, ◌↔◌, Option, None, List, [], ◌∷◌, ◌++◌, length, get_or, sym, ◌∙◌, ap, subst, arith}
use Rattle.std.specs.List.{Contains}
use Rattle.std.proofs.lemmas.List.{length-append}
use Rattle.vs_design.specs.Parts.{Parts}
use Rattle.vs_maps.specs.Texts.{Texts}
use Rattle.vs_maps.specs.vs_rules.specs.Paths.{Writes}
use Rattle.vs_maps.proofs.SiteLemmas.{AreSitesOf}
use Rattle.vs_maps.proofs.UseLemmas.{site_writes}
use Rattle.vs_slots_constants.specs.declared.clocks.Clock.{Clock}
use Rattle.vs_slots.specs.Kept.{IsClockOf}
use Rattle.vs_slots.proofs.KeptLemmas.{read_more}
use Rattle.vs_slots.proofs.clocks.clocks.Goals as goal

pub of_signal-requires : goal.of_signal-requires
of_signal-requires c =
    let told : length c.signals-v-end.result.now ≡ length c.args.facts.now.design.signals = ap length (c.signals-v-end.ensures ∙ ap (λ (d : Parts). d.signals) c.design.ensures) in
    subst (λ (x : Texts). c.loop-v.v < length x.design.signals) (sym c.sites-sites.ensures) (omega (arith, c.loop-v-test.true, told))

pub clock_by-requires-clause-signal : goal.clock_by-requires-clause-signal
clock_by-requires-clause-signal c =
    let told : length c.signals-v-end.result.now ≡ length c.args.facts.now.design.signals = ap length (c.signals-v-end.ensures ∙ ap (λ (d : Parts). d.signals) c.design.ensures) in
    omega (arith, c.loop-v-test.true, told)

pub clock_by-requires-clause-writers : goal.clock_by-requires-clause-writers
clock_by-requires-clause-writers c k =
    let f = c.args.facts.now in
    let v = c.loop-v.v in
    let are = subst (λ (x : Texts). AreSitesOf x.charts v c.of_signal.result.now) c.sites-sites.ensures c.of_signal.ensures in
    let both = site_writes f.design f.charts c.maps.ensures v c.of_signal.result.now are k in
    subst (λ (l : List ℕ). (Contains l k ↔ Writes f.design k v)) (sym c.deref.ensures.value)
    (λ h. both.0 ((c.in_ok-writers.ensures k).0 h), λ w. (c.in_ok-writers.ensures k).1 (both.1 w))

pub loop-v-preserved : goal.loop-v-preserved
loop-v-preserved c =
    let old = c.loop-v.all.items in
    let o = c.in_ok-clock.clock in
    let f = c.args.facts.now in
    let e : c.push.new.self.items ≡ old ++ o ∷ [] = c.in_ok-push.ensures.items in
    let long : length (old ++ o ∷ []) ≡ length old + 1 = length-append old (o ∷ []) in
    let here : IsClockOf f (length old) o = subst (λ (n : ℕ). IsClockOf f n o) (sym c.loop-v.invariant.0) c.in_ok-clock.ensures in (
      ap length e ∙ long ∙ ap (λ (n : ℕ). n + 1) c.loop-v.invariant.0,
      λ k h. subst (λ (l : List (Option Clock)). IsClockOf f k (get_or l k None)) (sym e)
          (read_more (λ n x. IsClockOf f n x) old o c.loop-v.invariant.1 here k (subst (λ (n : ℕ). k < n) (ap length e ∙ long) h)),
    )

pub returns : goal.returns
returns c =
    let told : length c.signals-v-end.result.now ≡ length c.args.facts.now.design.signals = ap length (c.signals-v-end.ensures ∙ ap (λ (d : Parts). d.signals) c.design.ensures) in
    let at : c.loop-v.v ≡ length c.signals-v-end.result.now = omega (arith, c.loop-v-test.false, c.loop-v.auto.v-end) in
    (c.loop-v.invariant.0 ∙ at ∙ told, c.loop-v.invariant.1)
