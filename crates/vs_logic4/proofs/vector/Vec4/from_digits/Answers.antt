use Rattle.std.proofs.Common.{◌≡◌, length, drop, [], refl, arith}
use Rattle.std.proofs.lemmas.List.{drop_all}
use Rattle.vs_logic4.specs.PlaneLaws.{value_plane-step, unknown_plane-step, value_plane-lt, unknown_plane-lt, digits_of_planes-of}
use Rattle.vs_logic4.proofs.vector.Vec4.from_digits.Goals as goal

pub loop-i-init : goal.loop-i-init
loop-i-init c =
    let none : drop (length c.args.digits.now) c.args.digits.now ≡ [] = drop_all (length c.args.digits.now) c.args.digits.now (omega arith) in
    rw none (refl, refl)

pub loop-i-preserved : goal.loop-i-preserved
loop-i-preserved c = (
  rw (c.loop-i.invariant.0, c.value_bit.ensures.is)
      (value_plane-step c.args.digits.now c.loop-i.i _ (omega arith) (omega arith) c.requires.most),
  rw (c.loop-i.invariant.1, c.unknown_bit.ensures.is)
      (unknown_plane-step c.args.digits.now c.loop-i.i _ (omega arith) (omega arith) c.requires.most),
)

pub invariant_of-result : goal.invariant_of-result
invariant_of-result c =
    let start : c.loop-i.i ≡ 0 = omega arith in
    record {
      some = c.requires.some;
      most = c.requires.most;
      value_below = rw (c.loop-i.invariant.0, start) (value_plane-lt c.args.digits.now);
      unknown_below = rw (c.loop-i.invariant.1, start) (unknown_plane-lt c.args.digits.now);
    }

pub returns : goal.returns
returns c =
    let start : c.loop-i.i ≡ 0 = omega arith in
    rw (c.loop-i.invariant.0, c.loop-i.invariant.1, start) (digits_of_planes-of c.args.digits.now)
