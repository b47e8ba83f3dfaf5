use Rattle.std.proofs.Common.{◌≡◌, ◌-◌, ◌^◌, ap, ◌∙◌, arith}
use Rattle.std.proofs.lemmas.Nat.Bits.{ones_shr}
use Rattle.vs_strobe.proofs.decimals.greatest.Goals as goal

pub returns : goal.returns
returns c =
    let back : 64 - (64 - c.args.width) ≡ c.args.width = omega arith in
    ones_shr 64 (64 - c.args.width) (omega arith) ∙ ap (λ k. 2 ^ k - 1) back
