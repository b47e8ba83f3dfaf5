use Rattle.std.proofs.Common.{◌≡◌, ◌-◌, ◌<◌, ◌≤◌, suc, get_or, arith, subst, ◌∙◌}
use Rattle.vs_time_wheel.proofs.ShortList.{moved_down, above, passed_more, IsBelow, below_none, below_later, in_order_at, newest_at}
use Rattle.vs_time_wheel.proofs.upcoming.enlist.Given.{Over}
use Rattle.vs_time_wheel.proofs.upcoming.enlist.Goals as goal
use Rattle.vs_time_wheel.proofs.upcoming.enlist.Goals.{then-loop-place-test+else-index-time, else-loop-place-test}

pub loop-place-preserved : goal.loop-place-preserved
loop-place-preserved g c =
    let next : c.loop-place.place ≡ suc (c.loop-place.place - 1) = omega (arith, c.loop-place-test.true) in
    let held : c.index.result.now ≡ get_or c.args.list.now.items (c.loop-place.place - 1) c.index.result.now =
    c.index.ensures ∙ above _ _ _ _ _ _ next c.loop-place.invariant.within c.loop-place.invariant.same in
    record {
      within = omega (arith, c.loop-place.invariant.within);
      same = c.swap.ensures.items ∙ moved_down _ _ _ _ _ next c.loop-place.invariant.within c.loop-place.invariant.same;
      passed = passed_more _ _ _ _ _ next c.loop-place.invariant.within c.loop-place.invariant.passed (subst (λ z. z.time ≤ c.args.time) held c.if-index-time.true);
    }

-- where the event stopped
stopped : (g : Over) (c : goal.Left-loop-place g) → IsBelow c.args.time c.args.list.now.items c.loop-place.place
stopped g c = elim c.loop-place-test.branch [
  | then-loop-place-test+else-index-time w ↦
      let next : c.loop-place.place ≡ suc (c.loop-place.place - 1) = omega (arith, w.loop-place-test.true) in
      let held : w.index.result.now ≡ get_or c.args.list.now.items (c.loop-place.place - 1) w.index.result.now =
      w.index.ensures ∙ above _ _ _ _ _ _ next c.loop-place.invariant.within c.loop-place.invariant.same in
      below_later _ _ _ _ _ next c.loop-place.invariant.within c.requires (subst (λ z. c.args.time < z.time) held w.if-index-time.false)
  | else-loop-place-test w ↦ below_none _ _ _ (omega (arith, w.loop-place-test.false))
]

pub returns-clause-added : goal.returns-clause-added
returns-clause-added g c = newest_at _ _ _ _ c.loop-place.invariant.same (stopped g c)

pub returns-clause-in_order : goal.returns-clause-in_order
returns-clause-in_order g c = in_order_at _ _ _ _ c.loop-place.invariant.same c.requires c.loop-place.invariant.passed (stopped g c)
