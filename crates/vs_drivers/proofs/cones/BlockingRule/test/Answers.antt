use Rattle.std.proofs.Common.{refl}
use Rattle.vs_drivers.proofs.cones.BlockingRule.test.Goals as goal

pub of_signal-requires : goal.of_signal-requires
of_signal-requires c = c.args.self.now.within c.args.i (c.if-not-is_free.ensures.0 refl)

pub returns : goal.returns
returns c =
    let those = c.of_signal.ensures in (
      λ t. let y = c.any_now.ensures.0 t in let is = (those y.0).0 y.1 in (c.if-not-is_free.ensures.0 refl, (y.0, is.0, is.1, y.2)),
      λ h. let a = h.1 in c.any_now.ensures.1 (a.0, (those a.0).1 (a.1, a.2), a.3),
    )
