use Rattle.std.proofs.Common.{◌≡◌, ℕ, ◌↔◌, true, false, IsTrue, Some, List, slice_get, refl, sym, ◌∙◌, ap, subst}
use Rattle.std.proofs.lemmas.Bool.{false≢true}
use Rattle.vs_design.specs.declared.range.BitRange.{BitRange}
use Rattle.vs_claims.specs.vs_maps.specs.Reaches.{IsPlace}
use Rattle.vs_claims.specs.Facts.{Case}
use Rattle.vs_rules_of_processes.specs.ReadingPlaces.{MayReadRange}
use Rattle.vs_rules_of_processes.proofs.ReadingLemmas.{both_read, reads_own, reads_shown}
use Rattle.vs_claims.specs.vs_maps.specs.Ranges.{shows_at}
use Rattle.vs_rules_of_processes.proofs.readings.Reader.place_keeps.Goals as goal

pub returns-then-not-is_point : goal.returns-then-not-is_point
returns-then-not-is_point c = (λ t place. absurd (false≢true (c.if-not-is_point.ensures.1 place)), λ h. refl)

pub returns-then-not-read : goal.returns-then-not-read
returns-then-not-read c =
    let f = c.args.self.now.slots.now in
    let i = c.args.self.now.process in
    let t = c.args.self.now.tables.now in
    let p = c.args.place in
    let place : IsPlace t p = c.if-not-is_point.ensures.0 refl in
    let own = subst (λ (l : List BitRange). (IsTrue c.in_ok-read.read ↔ ((k : ℕ) (r : BitRange) → slice_get l k ≡ Some r → MayReadRange f.design f.claims i t p r))) c.deref.ensures.value c.in_ok-read.ensures in
    (λ h. absurd (false≢true h), λ m. sym c.if-not-read.true ∙ own.1 (reads_own f.design f.claims i t p c.in_ok-reads.reads.items c.in_ok-reads.ensures (m place)))

pub returns-then-not-shown : goal.returns-then-not-shown
returns-then-not-shown c =
    let f = c.args.self.now.slots.now in
    let i = c.args.self.now.process in
    let t = c.args.self.now.tables.now in
    let p = c.args.place in
    let place : IsPlace t p = c.if-not-is_point.ensures.0 refl in
    let own = subst (λ (l : List BitRange). (IsTrue c.in_ok-read.read ↔ ((k : ℕ) (r : BitRange) → slice_get l k ≡ Some r → MayReadRange f.design f.claims i t p r))) c.deref.ensures.value c.in_ok-read.ensures in
    let off : false ≡ f.claims.displays = c.if-not-shown.ensures ∙ ap (λ (g : Case). g.claims.displays) c.facts.ensures in
    (λ h at. both_read f.design f.claims i t p c.in_ok-reads.reads.items (shows_at t p) c.in_ok-reads.ensures refl (own.0 c.if-not-read.false) (λ on. absurd (false≢true (off ∙ on))), λ m. refl)

pub returns : goal.returns
returns c =
    let f = c.args.self.now.slots.now in
    let i = c.args.self.now.process in
    let t = c.args.self.now.tables.now in
    let p = c.args.place in
    let place : IsPlace t p = c.if-not-is_point.ensures.0 refl in
    let own = subst (λ (l : List BitRange). (IsTrue c.in_ok-read.read ↔ ((k : ℕ) (r : BitRange) → slice_get l k ≡ Some r → MayReadRange f.design f.claims i t p r))) c.deref.ensures.value c.in_ok-read.ensures in
    let on : f.claims.displays ≡ true = sym (c.if-not-shown.ensures ∙ ap (λ (g : Case). g.claims.displays) c.facts.ensures) in
    let shown = subst (λ (l : List BitRange). (IsTrue c.in_ok-all.all ↔ ((k : ℕ) (r : BitRange) → slice_get l k ≡ Some r → MayReadRange f.design f.claims i t p r))) c.deref-2.ensures.value c.in_ok-all.ensures in (
      λ h at. both_read f.design f.claims i t p c.in_ok-reads.reads.items c.in_ok-shows.shows.items c.in_ok-reads.ensures c.in_ok-shows.ensures (own.0 c.if-not-read.false) (λ e. shown.0 h),
      λ m. shown.1 (reads_shown f.design f.claims i t p c.in_ok-shows.shows.items c.in_ok-shows.ensures on (m place)),
    )
