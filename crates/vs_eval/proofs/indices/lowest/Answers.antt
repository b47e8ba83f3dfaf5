use Rattle.std.proofs.Common.{rules, ◌≡◌, pos, ◌-ℤ◌, to_z, w64, refl}
use Rattle.std.proofs.lemmas.Int.{to_z-of_z, ints}
use mir.Syntax.{w128}
use mir.Val.{SFits}
use Rattle.vs_eval.proofs.indices.lowest.Goals as goal

pub returns-then-axis : goal.returns-then-axis
returns-then-axis c =
    let right = c.args.axis.right in
    let number = c.args.number in
    let below = c.args.axis.below in
    let right64 : SFits w64 right = search rules in
    let right128 : SFits w128 right = search (rules, ints) in
    let number128 : SFits w128 number = search rules in
    let distance128 : SFits w128 (right -ℤ number) = search (rules, ints) in
    let below_is : to_z w128 below ≡ pos below = search (rules, ints) in
    let lowest128 : SFits w128 (right -ℤ number -ℤ pos below) = search (rules, ints) in
    rw (to_z-of_z w64 right right64, to_z-of_z w128 right right128, to_z-of_z w128 number number128, to_z-of_z w128 (right -ℤ number) distance128, below_is, to_z-of_z w128 (right -ℤ number -ℤ pos below) lowest128, c.if-axis.true) refl

pub returns-else-axis : goal.returns-else-axis
returns-else-axis c =
    let right = c.args.axis.right in
    let number = c.args.number in
    let below = c.args.axis.below in
    let right64 : SFits w64 right = search rules in
    let right128 : SFits w128 right = search (rules, ints) in
    let number128 : SFits w128 number = search rules in
    let distance128 : SFits w128 (number -ℤ right) = search (rules, ints) in
    let below_is : to_z w128 below ≡ pos below = search (rules, ints) in
    let lowest128 : SFits w128 (number -ℤ right -ℤ pos below) = search (rules, ints) in
    rw (to_z-of_z w64 right right64, to_z-of_z w128 right right128, to_z-of_z w128 number number128, to_z-of_z w128 (number -ℤ right) distance128, below_is, to_z-of_z w128 (number -ℤ right -ℤ pos below) lowest128, c.if-axis.false) refl
