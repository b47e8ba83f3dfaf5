use Rattle.std.proofs.Common.{◌≡◌, ℕ, Some, None, true, false, refl, sym, subst}
use Rattle.std.proofs.lemmas.Option.{same_Some}
use Rattle.vs_drivers.specs.Copies.{IsCopied, HaveSameWidth}
use Rattle.vs_drivers.proofs.CopyLemmas.{parted, joined_copy}
use Rattle.vs_drivers.proofs.copies.source_of.Goals as goal

pub returns-in_default : goal.returns-in_default
returns-in_default c u = (
  λ h. let p = parted c.args.design.now c.args.inverse c.args.v u c.args.drivers.now c.requires h in let e : None ≡ Some p.driver = (c.in_default.ensures p.driver).0 p.only in cc,
  λ h. cc,
)

pub copied-requires : goal.copied-requires
copied-requires c = let o = (c.in-Some.ensures c.in-Some.j).1 refl in ((c.requires c.in-Some.j).0 o.0).0

pub returns-in_default-copied : goal.returns-in_default-copied
returns-in_default-copied c u = (
  λ h.
      let p = parted c.args.design.now c.args.inverse c.args.v u c.args.drivers.now c.requires h in
      let e = same_Some c.in-Some.j p.driver ((c.in-Some.ensures p.driver).0 p.only) in
      let f : None ≡ Some u = (c.in_default-copied.ensures u).0 (subst (λ (n : ℕ). IsCopied c.args.design.now c.args.inverse n c.args.v u) (sym e) p.copied) in
      cc,
  λ h. cc,
)

pub returns-then-have_same_width : goal.returns-then-have_same_width
returns-then-have_same_width c u = (
  λ h.
      let p = parted c.args.design.now c.args.inverse c.args.v u c.args.drivers.now c.requires h in
      let e = same_Some c.in-Some.j p.driver ((c.in-Some.ensures p.driver).0 p.only) in
      (c.in-Some-copied.ensures u).0 (subst (λ (n : ℕ). IsCopied c.args.design.now c.args.inverse n c.args.v u) (sym e) p.copied),
  λ h.
      joined_copy c.args.design.now c.args.inverse c.args.v u c.in-Some.j c.args.drivers.now c.requires (c.if-not-is_net.ensures.0 refl) ((c.in-Some.ensures c.in-Some.j).1 refl)
      ((c.in-Some-copied.ensures u).1 h)
      (subst (HaveSameWidth c.args.design.now c.args.v) (same_Some c.in-Some-copied.u u h) (c.if-have_same_width.ensures.0 refl)),
)

pub returns-else-have_same_width : goal.returns-else-have_same_width
returns-else-have_same_width c u = (
  λ h.
      let p = parted c.args.design.now c.args.inverse c.args.v u c.args.drivers.now c.requires h in
      let e = same_Some c.in-Some.j p.driver ((c.in-Some.ensures p.driver).0 p.only) in
      let f = (c.in-Some-copied.ensures u).0 (subst (λ (n : ℕ). IsCopied c.args.design.now c.args.inverse n c.args.v u) (sym e) p.copied) in
      let g : false ≡ true = c.if-have_same_width.ensures.1 (subst (HaveSameWidth c.args.design.now c.args.v) (sym (same_Some c.in-Some-copied.u u f)) p.same) in
      cc,
  λ h. cc,
)
