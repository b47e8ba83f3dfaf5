use Rattle.std.proofs.Common.{◌<◌, ◌-◌, ◌∙◌, refl, arith}
use Rattle.std.proofs.lemmas.Nat.{one_shl}
use Rattle.vs_logic4.proofs.Order.{less_is}
use Rattle.vs_logic4.proofs.vector.Vec4.less.Goals as goal
use Rattle.vs_logic4.proofs.vector.Vec4.less.Goals.{then-signed, else-signed}

pub returns : goal.returns
returns c =
    c.from_test_if.ensures
    ∙ less_is c.self.invariant c.other.invariant c.self.view_is c.other.view_is c.requires c.args.signed c.if-signed.flip
    (elim c.if-signed.branch [
      | then-signed w ↦
          let within : c.self.inside.width - 1 < 64 = omega (arith, c.self.invariant.some, c.self.invariant.most) in
          w.flip-is ∙ one_shl (c.self.inside.width - 1) 64 within ∙ rw w.if-signed.true refl
      | else-signed w ↦ w.flip-is ∙ rw w.if-signed.false refl
    ])
