use Rattle.std.proofs.Common.{sym, ◌∙◌, arith}
use Rattle.vs_elab_signals.proofs.SiteLemmas.{opened_at, seated_next, place_outward}
use Rattle.vs_elab_signals.proofs.SightLemmas.{sees_itself, sees_there, sees_next, sees_nothing, nothing_around}
use Rattle.vs_elab_signals.proofs.sights.sight_at.Goals as goal

pub loop-step-init : goal.loop-step-init
loop-step-init c = record {
  before = omega arith;
  sees = λ ss s a h. sees_itself ss s c.args.piece c.args.name.now c.args.place h;
}

pub returns-in-Some-clause-sight : goal.returns-in-Some-clause-sight
returns-in-Some-clause-sight c ss s a h =
    let l = c.loop-step in
    let g = l.invariant.sees ss s a h in
    sees_there ss s c.args.piece c.args.name.now l.at l.from g c.in-Some.sight (c.in-Some.ensures.sight ss g.scope a g.stands)

pub loop-step-preserved : goal.loop-step-preserved
loop-step-preserved c =
    let list = c.args.list.now in
    let l = c.loop-step in
    let o = c.index-list-at.result in
    let e = sym c.outward_place.ensures ∙ c.in-Some-outward_place.is in
    let next = seated_next list l.at c.in-Some-outward_place.next o c.requires.seated (omega arith) c.index-list-at.is (place_outward o.kind o.around c.in-Some-outward_place.next e).1 in
    record {
      before = omega (arith, next);
      sees = λ ss s a h.
          let g = l.invariant.sees ss s a h in
          let t = opened_at list ss a l.at o (omega arith) c.index-list-at.is g.scope g.stands in
          sees_next ss s c.args.piece c.args.name.now l.at l.from g o c.in-Some-outward_place.next e t.entered (rw c.in_default.is at (c.sight_here.ensures.sight ss g.scope a g.stands));
    }

pub returns-in-None-clause-sight : goal.returns-in-None-clause-sight
returns-in-None-clause-sight c ss s a h =
    let l = c.loop-step in
    let o = c.index-list-at.result in
    let g = l.invariant.sees ss s a h in
    let t = (opened_at c.args.list.now ss a l.at o (omega arith) c.index-list-at.is g.scope g.stands).entered in
    sees_nothing ss s c.args.piece c.args.name.now l.at l.from g (nothing_around ss g.scope o.kind o.around o.piece (sym c.outward_place.ensures ∙ c.in-None.is) t.kind t.sight)
    (c.in_default.ensures.sight ss g.scope a g.stands)

pub returns-clause-sight : goal.returns-clause-sight
returns-clause-sight c ss s a h = absurd (omega (arith, c.loop-step.invariant.before, c.loop-step-test.false))
