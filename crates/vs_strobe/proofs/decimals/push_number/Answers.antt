use Rattle.std.proofs.Common.{◌≡◌, ◌++◌, ◌^◌, ◌*ℤ◌, ◌≤◌, pos, OnOk, subst, ◌∙◌, to_z, rules, arith}
use Rattle.std.proofs.lemmas.Int.{to_z_pos, to_z-of_z, fits_signed_mul, ints}
use Rattle.std.specs.Prelude.{unsigned_abs}
use Rattle.vs_strobe.specs.Values.{justified}
use Rattle.vs_strobe.proofs.ValueLemmas.{number_shown}
use mir.Syntax.{w128}
use mir.Val.{SFits}
use Rattle.vs_strobe.proofs.decimals.push_number.Goals as goal

pub returns-in-Some : goal.returns-in-Some
returns-in-Some c =
    let n = c.in-Some.number in
    let factor = c.args.factor in
    let short : unsigned_abs n ≤ 2 ^ 64 = c.in-Some.ensures.most in
    let number128 : SFits w128 n = search (rules, ints) in
    let factor_is : to_z w128 factor ≡ pos factor = to_z_pos w128 factor (omega arith) in
    let product128 : SFits w128 (n *ℤ pos factor) = fits_signed_mul w128 n (pos factor) (2 ^ 64) (10 ^ 17) short (omega arith) (omega arith) in
    subst (λ piece. OnOk c.push_justified.result (c.push_justified.new.text.items ≡ c.args.text.now.items ++ justified c.args.places piece))
    (c.as_bytes.ensures.value ∙ c.format.ensures.text
    ∙ rw (to_z-of_z w128 n number128, factor_is, to_z-of_z w128 (n *ℤ pos factor) product128)
    (number_shown factor c.args.signed c.args.value n c.in-Some.ensures.is)) c.push_justified.ensures
