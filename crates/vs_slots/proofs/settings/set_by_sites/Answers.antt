use Rattle.std.proofs.Common.{Some, refl, sym, ap, subst}
use Rattle.std.proofs.lemmas.Option.{same_Some}
use Rattle.vs_design.specs.vs_logic4.specs.declared.digit.Digit.{Digit}
use Rattle.vs_slots.specs.Settings.{AreSetTo, AreSetAlike}
use Rattle.vs_slots.proofs.SettingLemmas.{one_digit}
use Rattle.vs_slots.proofs.settings.set_by_sites.Goals as goal

pub returns-in_default : goal.returns-in_default
returns-in_default c digit = (λ h. let w = h.0 in absurd (c.in_default.ensures.none refl w.0 w.1 w.2), λ e. cc)

pub returns-in_default-first : goal.returns-in_default-first
returns-in_default-first c digit = (
  λ h.
      let w = c.in-Some.ensures.there c.in-Some.site refl in
      let e = (c.in_ok-first.ensures digit).0 (h.1 c.in-Some.site w.0 w.1) in
      let n = c.in_default-first.is in
      cc,
  λ e. cc,
)

pub returns-then-branch : goal.returns-then-branch
returns-then-branch c digit =
    let t = c.args.tables.now in
    let w = c.in-Some.ensures.there c.in-Some.site refl in
    let d = c.in-Some-first.digit in
    let set = (c.in_ok-first.ensures d).1 c.in-Some-first.is in
    let all = c.in_ok-are_set_to.ensures.0 c.if-branch.true in (
      λ h. ap Some (one_digit t c.args.v d digit c.in-Some.site set (h.1 c.in-Some.site w.0 w.1)),
      λ e. subst (λ (x : Digit). AreSetAlike t c.args.sites.now c.args.v c.args.j x) (same_Some d digit e) ((c.in-Some.site, w.0, w.1), all),
    )

pub returns-else-branch : goal.returns-else-branch
returns-else-branch c digit =
    let t = c.args.tables.now in
    let w = c.in-Some.ensures.there c.in-Some.site refl in
    let d = c.in-Some-first.digit in
    let set = (c.in_ok-first.ensures d).1 c.in-Some-first.is in (
      λ h.
          let same = one_digit t c.args.v d digit c.in-Some.site set (h.1 c.in-Some.site w.0 w.1) in
          let all = c.in_ok-are_set_to.ensures.1 (subst (λ (x : Digit). AreSetTo t c.args.sites.now c.args.v c.args.j x) (sym same) h.1) in
          let f = c.if-branch.false in
          absurd (cc),
      λ e. cc,
    )
