use Rattle.std.proofs.Common.{ℕ, ◌+◌, arith, sym, subst}
use Rattle.vs_sign_off.proofs.UnequalLemmas.{AreLeft, all_left, stepped, told}
use Rattle.vs_sign_off.proofs.unequal.first_unequal.Goals as goal

pub loop-signal-init : goal.loop-signal-init
loop-signal-init c = record { left = all_left c.args.signals.now; most = omega arith }

pub loop-signal-preserved : goal.loop-signal-preserved
loop-signal-preserved c = record {
  left =
      subst (λ (n : ℕ). AreLeft c.args.signals.now n (c.loop-signal.signal + 1)) (sym c.following_place-place.ensures.is)
      (stepped c.args.signals.now c.loop-signal.place c.loop-signal.signal c.index-signals-signal.result c.is_some-is_array.result c.loop-signal-test.true
      c.is_some-is_array.ensures c.loop-signal.invariant.left);
  most = omega (arith, c.following_place-place.ensures.near, c.loop-signal.invariant.most);
}

pub returns-then-is_some : goal.returns-then-is_some
returns-then-is_some c =
    told c.args.signals.now c.args.one.now c.args.other.now c.loop-signal.place c.loop-signal.signal c.index-signals-signal.result c.is_some-is_array.result
    c.unequal_at-found.result c.loop-signal-test.true c.is_some-is_array.ensures c.if-not-is_array.true c.loop-signal.invariant.left
    c.unequal_at-found.ensures.signal c.unequal_at-found.ensures.first c.unequal_at-found.ensures.other c.unequal_at-found.ensures.differ
