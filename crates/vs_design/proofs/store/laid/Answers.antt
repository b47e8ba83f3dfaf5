use Rattle.std.proofs.Common.{◌≡◌, ℤ, pos, w64, to_z, sym, ap, ◌∙◌, arith}
use Rattle.std.proofs.lemmas.Int.{to_z-of_z, to_z_pos}
use Rattle.vs_logic4.specs.Parts.{with_part}
use Rattle.vs_design.proofs.Quick.{put_whole}
use Rattle.vs_design.proofs.store.laid.Goals as goal

pub returns-then-width : goal.returns-then-width
returns-then-width c =
    let zero : pos 0 ≡ c.args.low = sym (to_z_pos w64 0 (omega arith)) ∙ ap (to_z w64) (sym c.if-low-eq0.true) ∙ to_z-of_z w64 c.args.low c.ranges.low in
    put_whole c.args.digits c.args.word (omega (arith, c.width.ensures.digits, c.width-then-low-eq0.ensures.digits, c.if-width.true))
    ∙ ap (λ (low : ℤ). with_part low c.args.digits c.args.word) zero
