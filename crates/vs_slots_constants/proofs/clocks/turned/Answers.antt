use Rattle.std.proofs.Common.{ℕ, ◌≡◌, Some, None, refl, sym, ap, subst}
use Rattle.std.proofs.lemmas.Option.{same_Some}
use Rattle.vs_rules.specs.Constants.{SetsFirst}
use Rattle.vs_slots_constants.proofs.OtherLemmas.{other_writer}
use Rattle.vs_slots_constants.proofs.clocks.turned.Goals as goal

pub returns-in_default : goal.returns-in_default
returns-in_default c offset half digit = (λ h. let e : None ≡ Some half = (c.in_default.ensures half).0 h.1 in cc, λ h. cc)

pub returns-in_default-other : goal.returns-in_default-other
returns-in_default-other c offset half digit = (
  λ h.
      let j = h.2.0 in
      let o = other_writer c.args.design.now c.args.wide c.args.v c.args.i j half digit c.args.body.now c.args.writers.now c.requires.writers c.requires.its h.1 h.2.1 h.2.2 in
      let e : None ≡ Some j = (c.in_default-other.ensures j).0 o in
      cc,
  λ h. cc,
)

pub returns : goal.returns
returns c offset half digit = (
  λ h.
      let j = h.2.0 in
      let o = other_writer c.args.design.now c.args.wide c.args.v c.args.i j half digit c.args.body.now c.args.writers.now c.requires.writers c.requires.its h.1 h.2.1 h.2.2 in
      let e = same_Some c.in-Some-other.j j ((c.in-Some-other.ensures j).0 o) in
      let sets = subst (SetsFirst c.args.design.now c.args.wide c.args.v digit) (sym e) h.2.1 in
      (c.at_once.ensures offset half digit).0 (h.0, (c.in_ok-digit.ensures digit).0 sets, same_Some c.in-Some.half half ((c.in-Some.ensures half).0 h.1)),
  λ h.
      let m = (c.at_once.ensures offset half digit).1 h in
      let o = (c.in-Some-other.ensures c.in-Some-other.j).1 refl in
      (m.0, (c.in-Some.ensures half).1 (ap Some m.2), (c.in-Some-other.j, (c.in_ok-digit.ensures digit).1 m.1, λ k w. o.2 k ((c.requires.writers k).1 w))),
)

pub first_set-requires : goal.first_set-requires
first_set-requires c wide digit = c.requires.set wide c.in-Some-other.j ((c.in-Some-other.ensures c.in-Some-other.j).1 refl) digit
