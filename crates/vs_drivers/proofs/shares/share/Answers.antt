use Rattle.std.proofs.Common.{◌≡◌, Some, slice_get, arith}
use Rattle.vs_drivers.proofs.Words.{there, shared, share_word, share_place}
use Rattle.vs_drivers.proofs.shares.share.Goals as goal

pub returns-then-share_word : goal.returns-then-share_word
returns-then-share_word c =
    let s = c.in-Some.signal.now in
    let x = c.in-Some.ensures.lookup in
    let is : slice_get c.args.design.now.signals c.args.r.signal ≡ Some s =
    there c.args.design.now c.signals.result.now c.args.r.signal s c.signals.ensures x.0 x.1 in (
      λ h. shared c.args.design.now c.args.r c.args.q s is (omega arith) (c.share_word.ensures.0 c.if-share_word.true) (c.share_place.ensures.0 h),
      λ h. c.share_place.ensures.1 (share_place c.args.design.now c.args.r c.args.q s is h),
    )

pub returns-else-share_word : goal.returns-else-share_word
returns-else-share_word c =
    let s = c.in-Some.signal.now in
    let x = c.in-Some.ensures.lookup in
    let is : slice_get c.args.design.now.signals c.args.r.signal ≡ Some s =
    there c.args.design.now c.signals.result.now c.args.r.signal s c.signals.ensures x.0 x.1 in (
      λ h. absurd (grind (arith, h, c.if-share_word.false)),
      λ h. c.share_word.ensures.1 (share_word c.args.design.now c.args.r c.args.q s is h),
    )
