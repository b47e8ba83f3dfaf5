use Rattle.std.proofs.Common.{◌≡◌, false, ◌-ℤ◌, unsigned_abs, refl, ap₂, sym, ◌∙◌, arith, rules}
use Rattle.std.proofs.lemmas.Int.{to_z-of_z}
use mir.Syntax.{w128}
use mir.Val.{SFits}
use Rattle.std.proofs.lemmas.Result.{err_from_is_err_and}
use Rattle.vs_widths.specs.Selects.{is_reversed}
use Rattle.vs_widths.proofs.PlaceLemmas.{left_refused, right_refused, bounds_extent}
use Rattle.vs_widths.proofs.places.between.Goals as goal

pub returns-in_err-from : goal.returns-in_err-from
returns-in_err-from c =
    let p = err_from_is_err_and c.from_residual.result c.from_residual.ensures.1 in
    rw (p.1, p.2) (left_refused c.args.bounds c.args.left c.args.right _ c.in_err-from.ensures)

pub returns-in_err-to : goal.returns-in_err-to
returns-in_err-to c =
    let p = err_from_is_err_and c.from_residual-in_err-to.result c.from_residual-in_err-to.ensures.1 in
    rw (p.1, p.2) (right_refused c.args.bounds c.args.left c.args.right _ _ c.in_ok-from.ensures c.in_err-to.ensures)

pub returns : goal.returns
returns c =
    let n = c.in_ok-from.from in
    let m = c.in_ok-to.to in
    let n128 : SFits w128 n = search rules in
    let m128 : SFits w128 m = search rules in
    let apart : c.abs_diff-apart.result ≡ unsigned_abs (n -ℤ m) = c.abs_diff-apart.ensures ∙ ap₂ (λ a b. unsigned_abs (a -ℤ b)) (to_z-of_z w128 n n128) (to_z-of_z w128 m m128) in
    let against : is_reversed c.args.bounds n m ≡ false =
    sym (ap₂ (is_reversed c.args.bounds) (to_z-of_z w128 n n128) (to_z-of_z w128 m m128)) ∙ sym c.is_reversed.ensures ∙ c.if-is_reversed.false in
    bounds_extent c.args.bounds c.args.size c.args.left c.args.right n m _ c.axis.result c.in_ok-from.ensures c.in_ok-to.ensures against (omega (arith, apart, c.if-apart-gt63.false)) (omega (arith, apart)) refl c.axis.ensures.is c.axis.ensures.sign c.requires.right
