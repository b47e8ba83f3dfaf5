use Rattle.std.proofs.Common.{◌≡◌, ◌<◌, ◌⊎◌, ◌↔◌, ℕ, Some, None, IsTrue, length, refl, sym, subst}
use Rattle.std.proofs.lemmas.Bool.{false≢true}
use Rattle.vs_maps.specs.Texts.{Texts}
use Rattle.vs_maps.specs.vs_rules.specs.Paths.{Writes}
use Rattle.vs_claims.specs.Facts.{Case}
use Rattle.vs_drivers.specs.vs_maps.proofs.SiteLemmas.{AreSitesOf}
use Rattle.vs_drivers.specs.vs_maps.proofs.UseLemmas.{all_written, one_alone, site_writes}
use Rattle.vs_rules_of_processes.proofs.first_slot.FirstSlot.is_sole.Goals as goal

pub of_signal-requires : goal.of_signal-requires
of_signal-requires c = subst (λ (x : Texts). c.args.v < length x.design.signals) (sym c.sites.ensures) (subst (λ (k : Case). c.args.v < length k.design.signals) (sym c.self.view_is) c.requires)

pub all_writes-requires : goal.all_writes-requires
all_writes-requires c = subst (λ (x : Texts). c.args.v < length x.design.signals) (sym c.uses.ensures) (subst (λ (k : Case). c.args.v < length k.design.signals) (sym c.self.view_is) c.requires)

pub returns-then-not-any_write_of : goal.returns-then-not-any_write_of
returns-then-not-any_write_of c =
    let x = c.self.inside.facts.now in
    let are = subst (λ (y : Texts). AreSitesOf y.charts c.args.v c.of_signal.result.now) c.sites.ensures c.of_signal.ensures in
    let own = site_writes x.design x.charts c.maps.ensures c.args.v c.of_signal.result.now are c.args.i in
    (λ h. absurd (false≢true h), λ y. c.if-not-any_write_of.ensures.1 (own.1 (subst (λ (k : Case). Writes k.design c.args.i c.args.v) (sym c.self.view_is) y.0)))

pub returns : goal.returns
returns c =
    let x = c.self.inside.facts.now in
    let v = c.args.v in
    let i = c.args.i in
    let are = subst (λ (y : Texts). AreSitesOf y.charts v c.of_signal.result.now) c.sites.ensures c.of_signal.ensures in
    let own = site_writes x.design x.charts c.maps.ensures v c.of_signal.result.now are i in
    let alone = all_written x.design x.charts c.maps.ensures c.uses.result.now c.uses.ensures v (λ (j : ℕ). (Some i ≡ Some j) ⊎ (None ≡ Some j)) c.all_writes.result c.all_writes.ensures in
    subst (λ (k : Case). (IsTrue c.all_writes.result ↔ (Writes k.design i v × ((j : ℕ) → Writes k.design j v → j ≡ i)))) c.self.view_is (
      λ t. (own.0 (c.if-not-any_write_of.ensures.0 refl), λ j w. (one_alone i j).0 (alone.0 t j w)),
      λ y. alone.1 (λ j w. (one_alone i j).1 (y.1 j w)),
    )
