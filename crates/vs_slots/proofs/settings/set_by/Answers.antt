use Rattle.std.proofs.Common.{◌≡◌, ◌↔◌, Some, slice_get, sym, subst}
use Rattle.std.proofs.lemmas.Result.{IfOk-weaker}
use Rattle.vs_design.specs.vs_logic4.specs.declared.digit.Digit.{Digit}
use Rattle.vs_maps.specs.vs_rules.specs.Constants.{SetsAlike}
use Rattle.vs_maps.specs.Texts.{Texts}
use Rattle.vs_maps.proofs.SiteLemmas.{AreSitesOf}
use Rattle.vs_slots.specs.Settings.{AreSetAlike}
use Rattle.vs_slots.proofs.KeptLemmas.{process_of}
use Rattle.vs_slots.proofs.SettingLemmas.{alike_sites, alike_there}
use Rattle.vs_slots.proofs.settings.set_by.Goals as goal

pub returns-in_default : goal.returns-in_default
returns-in_default c digit =
    let f = c.args.facts.now in
    (λ h. absurd (alike_there f.design f.charts c.args.v c.args.j digit c.maps.ensures (sym c.in_default.ensures) h), λ e. cc)

pub returns : goal.returns
returns c =
    let f = c.args.facts.now in
    let v = c.args.v in
    let j = c.args.j in
    let t = c.in-Some.tables.now in
    let at : slice_get f.charts j ≡ Some t = sym c.in-Some.ensures in
    let q = process_of f j t c.maps.ensures at in
    let text = c.maps.ensures.each j q.0 t q.1 at in
    let row = c.of_signal.result.now in
    let are = subst (λ (x : Texts). AreSitesOf x.charts v row) c.sites.ensures c.of_signal.ensures in
    IfOk-weaker c.set_by_sites.result
    (λ o. (digit : Digit) → (AreSetAlike t row v j digit ↔ o ≡ Some digit))
    (λ o. (digit : Digit) → (SetsAlike f.design v digit j ↔ o ≡ Some digit))
    (λ o h digit.
    let both = alike_sites f.design f.charts v j q.0 t q.1 at text row are digit in
    (λ s. (h digit).0 (both.1 s), λ e. both.0 ((h digit).1 e)))
    c.set_by_sites.ensures
